pub mod Telling
pub mod Showing
pub mod Again
pub mod Ruling
pub mod Tallies
pub mod Rows
pub mod Whole
pub mod Examples
