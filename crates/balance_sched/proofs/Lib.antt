pub mod OrderLemmas
pub mod MoveLemmas
pub mod SearchLemmas
pub mod PlaceLemmas
pub mod LawLemmas
pub mod CountLemmas
