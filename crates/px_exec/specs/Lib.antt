pub mod Executive
pub mod Opening
pub mod Answers
pub mod Crash
