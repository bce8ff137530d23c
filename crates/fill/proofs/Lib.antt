pub mod Filling
pub mod Going
pub mod Again
pub mod Kept
