pub mod Appends
pub mod Parting
