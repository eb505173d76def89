pub mod Outcome
pub mod Finish
