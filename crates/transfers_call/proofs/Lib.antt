pub mod Packing
pub mod Asking
pub mod Runs
pub mod Meaning
pub mod Written
pub mod Firsts
pub mod Laws
pub mod Examples
