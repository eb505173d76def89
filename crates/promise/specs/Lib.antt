pub mod Claims
pub mod Chain
pub mod Demands
