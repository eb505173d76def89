pub mod Integers
pub mod Runs
pub mod Best
pub mod Reading
pub mod Waits
pub mod Rust
