pub mod Tables
pub mod Search
pub mod Door
pub mod Promise
