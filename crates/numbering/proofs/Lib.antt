pub mod Appearance
pub mod Bools
pub mod Deciding
pub mod Entering
mod Positions
