pub mod Depths
pub mod Lowest
pub mod Near
pub mod Paths
