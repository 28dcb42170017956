pub mod Adding
pub mod Made
