pub mod Price
pub mod Layout
pub mod Search
