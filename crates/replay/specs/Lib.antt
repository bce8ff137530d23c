pub mod Parts
pub mod Replay
pub mod Tally
pub mod Names
