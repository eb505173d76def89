pub mod Yes
pub mod Examples
pub mod Converse
pub mod Once
