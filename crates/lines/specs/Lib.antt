pub mod Lines
pub mod Breaks
pub mod Allowed
pub mod Walk
