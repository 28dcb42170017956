pub mod Part
pub mod Start
pub mod Tail
pub mod Named
pub mod Verdict
pub mod Walk
