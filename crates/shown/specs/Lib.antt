pub mod Shown
pub mod Slip
