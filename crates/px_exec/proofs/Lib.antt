pub mod Growing
pub mod Running
pub mod Images
pub mod Naming
pub mod Keeping
pub mod Renamed
pub mod Tellings
