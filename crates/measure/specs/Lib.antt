pub mod Escapes
pub mod Measure
pub mod Walk
pub mod Wording
