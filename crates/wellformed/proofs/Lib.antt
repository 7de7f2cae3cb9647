pub mod Graphed
pub mod Judged
pub mod Lined
pub mod Sound
pub mod Verdict
