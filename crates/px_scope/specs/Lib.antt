pub mod Scope
pub mod Resolving
pub mod Items
pub mod Actions
