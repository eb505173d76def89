pub mod Order
pub mod Turn
