pub mod Times
pub mod Door
