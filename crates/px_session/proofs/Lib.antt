pub mod Sessions
pub mod Closed
pub mod Created
pub mod TakenUp
