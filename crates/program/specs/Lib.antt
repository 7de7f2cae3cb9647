pub mod Asked
pub mod Led
pub mod Meaning
pub mod Refusals
pub mod Sames
pub mod Written
pub mod SamesLemmas
