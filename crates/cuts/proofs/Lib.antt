pub mod Cutting
pub mod Laws
pub mod Keeping
