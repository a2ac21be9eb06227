pub mod LawLemmas
pub mod TurnLemmas
