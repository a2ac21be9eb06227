pub mod Sorted
pub mod RuleLemmas
pub mod BorderLemmas
pub mod NameLemmas
pub mod ForceLemmas
pub mod SetLemmas
pub mod Words
