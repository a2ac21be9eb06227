pub mod CountLemmas
pub mod Lawful
