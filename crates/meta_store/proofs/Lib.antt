pub mod Order
pub mod Spots
pub mod Found
pub mod Refines
pub mod Firsts
pub mod Stored
pub mod Verdicts
pub mod Prefixes
pub mod Kept
mod Seating
