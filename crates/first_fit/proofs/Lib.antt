pub mod Laying
pub mod Entering
pub mod Groupings
pub mod OneWidth
