pub mod Keeping
pub mod Tally
