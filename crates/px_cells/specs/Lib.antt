pub mod Cells
pub mod Flags
pub mod Keeping
pub mod Marked
pub mod Marks
pub mod News
