pub mod Block
pub mod Plan
