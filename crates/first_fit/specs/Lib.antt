pub mod FirstFit
pub mod Entry
pub mod Groupings
