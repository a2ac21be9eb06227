pub mod BestLemmas
pub mod RankLemmas
pub mod ArrivalLemmas
pub mod StepLemmas
pub mod PoolLemmas
pub mod PlaceLemmas
pub mod VerdictLemmas
pub mod SameLemmas
pub mod BeatLemmas
mod RepairLemmas
mod WordLemmas
mod DoneLemmas
pub mod TellLemmas
pub mod OtherStores
pub mod LeadLemmas
pub mod ScoreLemmas
pub mod RoomyLemmas
