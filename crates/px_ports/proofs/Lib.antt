pub mod Files
pub mod Failures
pub mod Replays
pub mod Elapsing
