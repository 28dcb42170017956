pub mod Operands
pub mod Limited
pub mod Seed
pub mod Words
pub mod Asked
pub mod Line
pub mod Listed
