pub mod Laid
pub mod Phase
pub mod Going
