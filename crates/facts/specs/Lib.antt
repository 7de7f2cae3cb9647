pub mod Depths
pub mod Order
pub mod Sets
pub mod Levels
pub mod Bitsets
