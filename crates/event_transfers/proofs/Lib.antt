pub mod Laying
pub mod Lists
pub mod Grouping
pub mod Events
pub mod Counting
