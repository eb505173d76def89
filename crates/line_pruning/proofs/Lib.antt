pub mod Chains
pub mod Stages
pub mod Noting
pub mod Reading
pub mod Rounds
pub mod Kept
