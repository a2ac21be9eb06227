pub mod Ranges
pub mod Standing
pub mod Stale
pub mod Cover
pub mod Places
pub mod Moves
