pub mod Bits
pub mod Fill
pub mod Laws
pub mod WellFormed
pub mod Examples
