pub mod Iter
pub mod Count
pub mod Order
