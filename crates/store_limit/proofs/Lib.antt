pub mod ChargeLemmas
pub mod LimitLemmas
