pub mod Door
pub mod Once
pub mod Columns
