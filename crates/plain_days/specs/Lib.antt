pub mod K
