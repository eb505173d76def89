pub mod Runs
pub mod Tail
pub mod Testing
pub mod Departing
pub mod Taking
