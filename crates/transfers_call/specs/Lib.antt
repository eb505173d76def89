pub mod Call
pub mod Settled
