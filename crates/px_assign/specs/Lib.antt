pub mod Conflicts
pub mod Contending
pub mod Ordering
pub mod Claims
pub mod Keeping
