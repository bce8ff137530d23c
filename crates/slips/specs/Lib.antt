pub mod Rooms
pub mod Show
