pub mod Heads
pub mod Streams
