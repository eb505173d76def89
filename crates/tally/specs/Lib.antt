pub mod Tally
pub mod Screen
pub mod Laws
