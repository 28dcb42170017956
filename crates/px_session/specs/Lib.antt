pub mod Session
pub mod Attaching
pub mod Fault
pub mod Creating
pub mod Reading
pub mod Reopening
pub mod Posting
