pub mod Stores
pub mod Laying
pub mod Widths
pub mod Entering
