pub mod Rounds
pub mod Round
