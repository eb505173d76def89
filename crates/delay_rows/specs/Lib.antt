pub mod Delays
pub mod Flat
pub mod Door
