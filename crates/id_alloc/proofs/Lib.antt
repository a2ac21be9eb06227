pub mod Asked
pub mod Ids
