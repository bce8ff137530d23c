pub mod Block
pub mod Asking
pub mod Examples
