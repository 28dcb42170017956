pub mod Keeping
pub mod Listening
pub mod Walking
