pub mod Lowest
pub mod Near
