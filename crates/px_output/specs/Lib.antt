pub mod View
pub mod Printing
pub mod Drafts
pub mod Stalls
pub mod Summary
