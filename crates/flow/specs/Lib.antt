pub mod Distances
pub mod Equations
pub mod Rings
pub mod Visits
pub mod Heights
pub mod Falls
pub mod Effects
