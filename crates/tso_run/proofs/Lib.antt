pub mod Pairs
pub mod Lines
pub mod Rows
pub mod Starting
pub mod Moving
pub mod Ending
mod Naming
