pub mod Filling
pub mod Turns
pub mod Sections
pub mod Starting
pub mod Reading
pub mod Laying
pub mod Beginning
