pub mod Gtfs
pub mod Found
pub mod Reading
pub mod Waits
pub mod Rust
