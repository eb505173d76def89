pub mod Parts
pub mod Yes
pub mod All
pub mod Flat
pub mod Apart
pub mod Laws
