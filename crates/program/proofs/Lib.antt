mod Crowding
mod Halting
mod Judging
mod Lawfully
mod Leading
pub mod Lone
mod Repeating
mod Scanning
mod Wiring
