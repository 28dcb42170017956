pub mod Values
pub mod Fit
pub mod Names
pub mod Appending
pub mod Bytes
pub mod Reading
pub mod Equality
