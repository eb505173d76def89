pub mod Part
pub mod Places
pub mod View
pub mod Step
