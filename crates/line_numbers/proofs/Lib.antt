pub mod Same
pub mod Chain
pub mod Group
pub mod Parts
pub mod Lists
pub mod Tally
pub mod Laws
