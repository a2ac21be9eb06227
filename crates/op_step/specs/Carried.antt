-- What the steps of a wish leave, carried out one after the other (pd-ctl, `operator add`; PD documentation, "Scheduling").
use Rattle.std.specs.Prelude.{◌≡◌, ◌≢◌, ℕ, List, [], ◌∷◌, ◌++◌, map, fold, All, AllPairs, Any, Contains}
use Rattle.pd_types.specs.declared.region.Role.{Role}
use Rattle.pd_types.specs.declared.region.Role.TheVariants.{Voter, Learner}
use Rattle.pd_types.specs.declared.region.Peer.{Peer}
use Rattle.pd_types.specs.declared.region.RegionBeat.{RegionBeat}
use Rattle.pd_types.specs.declared.step.Step.{Step}
use Rattle.pd_types.specs.declared.step.Step.TheVariants as steps
use Rattle.pd_types.specs.WellFormed.{Leads}
use Rattle.op_step.specs.After.{after}
use Rattle.op_step.specs.Wishes.{step_with}

-- the region after the steps, the new peer's id in the place of each 0
abbrev pub left_by : ℕ → List Step → RegionBeat → RegionBeat
left_by id steps beat = fold (λ region step. after step region) beat (map (step_with id) steps)

-- each peer has an id, none of them the new peer's, and no two are on one store
pub record MayTake (id : ℕ) (beat : RegionBeat) : Type 0 where
  pub given : All (λ (peer : Peer). peer.id ≢ 0) beat.region.peers
  pub new : All (λ (peer : Peer). peer.id ≢ id) beat.region.peers
  pub stores : AllPairs (λ (a b : Peer). a.store ≢ b.store) beat.region.peers

-- the region has the new peer, on this store and in this role
abbrev pub HasNew : ℕ → ℕ → Role → RegionBeat → Type 0
HasNew id store role later = Contains later.region.peers (record { id = id; store = store; role = role })

-- a voter on the store leads the region
abbrev pub IsLedFrom : ℕ → RegionBeat → Type 0
IsLedFrom store later = Any (λ (peer : Peer). (peer.store ≡ store) × Leads later.leader peer) later.region.peers

-- no peer is on the store, none that was there leads, and each peer of another store is as it was
pub record HasLeft (store : ℕ) (beat later : RegionBeat) : Type 0 where
  pub gone : All (λ (peer : Peer). peer.store ≢ store) later.region.peers
  pub leader : All (λ (peer : Peer). peer.store ≡ store → later.leader ≢ peer.id) beat.region.peers
  pub others : All (λ (peer : Peer). peer.store ≢ store → Contains later.region.peers peer) beat.region.peers

-- no peer is on the one store any more, and a new one is on the other: a voter for a voter, a learner for a learner
pub record HasMoved (from to id : ℕ) (beat later : RegionBeat) : Type 0 where
  pub left : HasLeft from beat later
  pub voter : All (λ (peer : Peer). peer.store ≡ from → peer.role ≡ Voter → HasNew id to Voter later) beat.region.peers
  pub learner : All (λ (peer : Peer). peer.store ≡ from → peer.role ≡ Learner → HasNew id to Learner later) beat.region.peers

-- the removal comes last; before it the new peer is there, in the moved one's role, and so is each peer that was there
pub record IsThereFirst (from to id : ℕ) (beat : RegionBeat) (list : List Step) : Type 0 where
  pub before : List Step
  pub gone : ℕ
  pub last : list ≡ before ++ steps.RemovePeer gone from ∷ []
  pub voter : All (λ (peer : Peer). peer.store ≡ from → peer.role ≡ Voter → HasNew id to Voter (left_by id before beat)) beat.region.peers
  pub learner : All (λ (peer : Peer). peer.store ≡ from → peer.role ≡ Learner → HasNew id to Learner (left_by id before beat)) beat.region.peers
  pub kept : All (λ (peer : Peer). Contains (left_by id before beat).region.peers peer) beat.region.peers
