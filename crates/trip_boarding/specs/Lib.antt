pub mod Reads
pub mod Frequency
