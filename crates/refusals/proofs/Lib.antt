pub mod Finding
pub mod Places
pub mod Telling
pub mod Examples
