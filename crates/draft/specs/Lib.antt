pub mod Edits
pub mod Plain
