pub mod Beginning
pub mod Found
pub mod Integers
pub mod Refreshing
pub mod Scalars
pub mod Sending
pub mod Stepped
pub mod Taken
