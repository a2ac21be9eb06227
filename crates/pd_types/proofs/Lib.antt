pub mod BeatLemmas
pub mod Bools
pub mod Filters
pub mod KeyLemmas
pub mod Members
pub mod Numbers
pub mod Pairs
pub mod RoleLemmas
