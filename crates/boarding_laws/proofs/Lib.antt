pub mod Waiting
pub mod Boarding
pub mod Search
pub mod Claims
