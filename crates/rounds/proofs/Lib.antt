pub mod Keep
pub mod States
pub mod Opening
pub mod Closing
pub mod Loop
