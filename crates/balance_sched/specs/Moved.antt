-- The regions once a move is done (PD documentation, "Scheduling": balance of regions and of leaders).
use Rattle.std.specs.Prelude.{◌≡◌, ◌≤◌, ℕ, ◌+◌, ◌*◌, true, false, List, ◌∷◌, ◌++◌, Contains}
use Rattle.pd_types.specs.declared.region.RegionBeat.{RegionBeat}
use Rattle.heartbeat.specs.Counts.{is_on, leads_on, leader_count, region_count}
use Rattle.balance_sched.specs.declared.moves.Kind.{Kind}
use Rattle.balance_sched.specs.declared.moves.Move.{Move}
use Rattle.balance_sched.specs.Moves.{done}
use Rattle.balance_sched.specs.Tables.{Tables, count_of}

-- both tell of peers on the same stores, and of a leader on the same one; ids, epochs and whatever else may differ
pub record TellAlike (one other : RegionBeat) : Type 0 where
  pub peers : (store : ℕ) → is_on store one ≡ is_on store other
  pub leader : (store : ℕ) → leads_on store one ≡ leads_on store other

-- the region is told of as the move leaves it, and each other region as before
pub record IsMoved (kind : Kind) (move : Move) (beat : RegionBeat) (old new : List RegionBeat) : Type 0 where
  pub told : RegionBeat
  pub before : List RegionBeat
  pub behind : List RegionBeat
  pub whole : old ≡ before ++ beat ∷ behind
  pub left : new ≡ before ++ told ∷ behind
  pub alike : TellAlike told (done kind move beat)

-- the squares of the counts of two stores, together
abbrev pub squares_of : Kind → ℕ → ℕ → List RegionBeat → ℕ
squares_of kind one other held = count_of kind one held * count_of kind one held + count_of kind other held * count_of kind other held

-- a region that stands has a peer on the one store and none on the other, which has at least two regions fewer
pub record EvensRegions (tables : Tables) (region from to : ℕ) : Type 0 where
  pub beat : RegionBeat
  pub held : Contains tables.held beat
  pub id : beat.region.id ≡ region
  pub source : is_on from beat ≡ true
  pub target : is_on to beat ≡ false
  pub counts : region_count to tables.held + 2 ≤ region_count from tables.held

-- a region that stands has a peer on the store, and is led from another one, which has at least two leaders more
pub record EvensLeaders (tables : Tables) (region to : ℕ) : Type 0 where
  pub beat : RegionBeat
  pub from : ℕ
  pub held : Contains tables.held beat
  pub id : beat.region.id ≡ region
  pub source : leads_on from beat ≡ true
  pub target : is_on to beat ≡ true
  pub counts : leader_count to tables.held + 2 ≤ leader_count from tables.held
