pub mod Lines
pub mod Grouping
