pub mod Flags
pub mod Skipping
