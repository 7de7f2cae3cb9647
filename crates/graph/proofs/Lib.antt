mod Flat
pub mod Shaped
