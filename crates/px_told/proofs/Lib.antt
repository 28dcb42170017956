pub mod Ancestors
pub mod Handing
pub mod Hearing
pub mod Places
pub mod Same
pub mod Setting
