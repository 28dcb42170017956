pub mod Keeping
pub mod Links
pub mod Lists
pub mod Relinking
