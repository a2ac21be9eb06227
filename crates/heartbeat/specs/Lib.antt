pub mod Counts
pub mod Intakes
pub mod Kept
