pub mod Appending
pub mod Names
