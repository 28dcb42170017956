pub mod Ascii
pub mod Digits
pub mod Divisions
pub mod General
pub mod Integers
pub mod Names
pub mod Paths
