pub mod Gate
pub mod Laws
pub mod Examples
