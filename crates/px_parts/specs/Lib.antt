pub mod Parts
pub mod Fresh
pub mod Marks
pub mod Readings
pub mod Seen
