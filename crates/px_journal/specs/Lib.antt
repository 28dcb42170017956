pub mod Layout
pub mod Damage
pub mod Crash
pub mod Journal
pub mod Goes
pub mod Window
