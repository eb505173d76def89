pub mod Lawful
pub mod Queue
