pub mod FirstRows
pub mod Readings
