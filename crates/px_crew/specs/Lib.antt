pub mod Board
pub mod Crew
pub mod Seat
pub mod Standstill
pub mod Walk
pub mod Work
