pub mod Splits
pub mod Draws
pub mod Takes
pub mod Posts
pub mod Slips
pub mod Names
pub mod Logs
