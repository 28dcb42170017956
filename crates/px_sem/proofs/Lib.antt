pub mod Logs
pub mod Settles
pub mod Texts
pub mod Writes
