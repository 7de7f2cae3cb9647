pub mod Faults
pub mod Lines
pub mod Programs
pub mod Verdicts
