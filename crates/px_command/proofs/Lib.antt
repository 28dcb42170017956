pub mod Nodes
pub mod Returns
pub mod Rows
pub mod Slots
pub mod Taken
pub mod Told
pub mod Writes
