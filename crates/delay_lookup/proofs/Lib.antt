pub mod Fold
pub mod Search
pub mod Door
pub mod Largest
pub mod Rows
pub mod Examples
