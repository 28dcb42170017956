pub mod Defaults
pub mod Fit
pub mod Joined
pub mod Plan
pub mod Expr
