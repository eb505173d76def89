pub mod Iter
pub mod Count
pub mod Search
pub mod Most
pub mod Chains
