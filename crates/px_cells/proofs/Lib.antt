pub mod Marking
pub mod Flagging
pub mod Kept
pub mod Noting
pub mod Writing
