pub mod Verdict
pub mod Opening
pub mod Tail
