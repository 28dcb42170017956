mod Latching
pub mod Reporting
mod Staying
pub mod Taking
