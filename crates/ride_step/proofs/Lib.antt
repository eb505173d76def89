pub mod Later
pub mod Keep
pub mod Riding
pub mod Scanned
pub mod Phased
