pub mod Actions
pub mod Counting
pub mod Results
pub mod Taking
