pub mod Pieces
pub mod Parts
pub mod Steps
pub mod Lists
