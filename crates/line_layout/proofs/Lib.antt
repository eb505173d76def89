pub mod Placing
pub mod Yes
pub mod Last
pub mod Laws
