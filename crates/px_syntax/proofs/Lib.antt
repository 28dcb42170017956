pub mod Levels
pub mod Spelled
pub mod Trees
