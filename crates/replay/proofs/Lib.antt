pub mod Held
pub mod Lists
pub mod Layouts
