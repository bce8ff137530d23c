pub mod Fragments
pub mod Lists
pub mod Answers
