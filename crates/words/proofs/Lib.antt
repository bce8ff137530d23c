pub mod Stepping
pub mod Laws
pub mod Counting
pub mod Storing
pub mod Theory
pub mod Most
pub mod Finding
