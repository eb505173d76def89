pub mod Some
pub mod Writing
pub mod Sorting
pub mod Outcome
pub mod Laws
pub mod Examples
