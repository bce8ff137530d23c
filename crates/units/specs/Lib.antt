pub mod Limits
pub mod Answers
pub mod Numbers
