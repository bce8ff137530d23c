pub mod Cases
pub mod Walk
pub mod Upto
pub mod Wording
pub mod Laws
