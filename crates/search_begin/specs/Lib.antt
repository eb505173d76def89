pub mod Fill
pub mod Begin
pub mod Laying
