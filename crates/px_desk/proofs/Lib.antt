pub mod Lists
pub mod Dealing
pub mod Shown
pub mod Whole
