pub mod Transfers
pub mod Packed
