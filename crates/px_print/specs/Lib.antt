pub mod Texts
pub mod ExprLayout
pub mod BlockLayout
pub mod Layout
pub mod Unnumbered
pub mod Reading
