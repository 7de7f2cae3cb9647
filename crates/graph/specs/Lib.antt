pub mod Edges
pub mod Made
pub mod Neighbours
pub mod Paths
pub mod Rows
pub mod Shapes
pub mod EdgeLists
pub mod Making
