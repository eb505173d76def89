pub mod Along
pub mod Turning
pub mod Alighting
pub mod Queuing
pub mod Keeping
pub mod Taking
pub mod Transfers
