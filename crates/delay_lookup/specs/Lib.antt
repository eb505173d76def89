pub mod Sane
pub mod Halving
