pub mod Tables
pub mod Moves
pub mod Moved
pub mod Search
