pub mod Walking
pub mod Lists
