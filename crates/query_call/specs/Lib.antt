pub mod Workspace
pub mod Parts
pub mod Call
