pub mod Entries
pub mod Outcome
pub mod Examples
