pub mod Departures
pub mod Listed
pub mod Packed
