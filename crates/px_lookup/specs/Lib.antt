pub mod Reports
pub mod Undoing
