pub mod Choice
pub mod Count
pub mod Items
pub mod Block
pub mod Stored
