pub mod Wire
pub mod Cells
pub mod Numbers
pub mod Bytes
