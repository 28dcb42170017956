pub mod Cells
pub mod Differing
pub mod Halves
pub mod Paths
pub mod SitePaths
pub mod Trees
