pub mod Labels
pub mod Refusals
