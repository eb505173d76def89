pub mod Lent
pub mod Sane
