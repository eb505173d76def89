pub mod Part
pub mod Labels
pub mod Lists
pub mod Marking
pub mod Steps
pub mod Queue
pub mod Starts
pub mod Falls
