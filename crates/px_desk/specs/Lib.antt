pub mod Listing
pub mod Seating
pub mod Seats
pub mod EventDesk
