pub mod Names
pub mod Outlets
pub mod Benches
pub mod Kept
pub mod Shares
