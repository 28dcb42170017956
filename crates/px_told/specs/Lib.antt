pub mod Asking
pub mod Hearing
pub mod Keeping
pub mod Preorder
pub mod Told
