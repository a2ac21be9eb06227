pub mod CarriedLemmas
pub mod CountLemmas
pub mod FinishedLemmas
pub mod NextLemmas
