pub mod Saying
pub mod Ascii
