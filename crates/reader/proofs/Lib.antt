pub mod Turning
pub mod Laws
