pub mod Replying
pub mod Ends
pub mod Clearing
