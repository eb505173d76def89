pub mod Segmented
pub mod Stopping
