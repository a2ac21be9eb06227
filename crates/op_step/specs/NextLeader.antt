-- Who leads where the leader leaves: of the voters that can take the lead, the one of the least id (the choice is our own; PD
-- takes one that its checks before `TransferLeader` let through).
use Rattle.std.specs.Prelude.{◌≡◌, ℕ, ◌≤◌, false, List, Option, Some, None, IsTrue, All, Contains}
use Rattle.pd_types.specs.declared.region.Peer.{Peer}
use Rattle.pd_types.specs.declared.region.RegionBeat.{RegionBeat}
use Rattle.store_table.specs.declared.entry.StoreEntry.{StoreEntry}
use Rattle.op_step.specs.Wishes.{may_lead}

-- the peer is one of the region's that can take the lead, and no other of these has a lesser id
pub record IsLeast (peer : Peer) (beat : RegionBeat) (stores : List StoreEntry) (now : ℕ) : Type 0 where
  pub held : Contains beat.region.peers peer
  pub able : IsTrue (may_lead beat stores now peer)
  pub least : All (λ (other : Peer). IsTrue (may_lead beat stores now other) → peer.id ≤ other.id) beat.region.peers

-- none of the region's peers can take the lead
abbrev pub NobodyCan : RegionBeat → List StoreEntry → ℕ → Type 0
NobodyCan beat stores now = All (λ (peer : Peer). may_lead beat stores now peer ≡ false) beat.region.peers

-- the next leader: the peer of the least id among those that can take the lead; none where nobody can
abbrev pub IsNext : RegionBeat → List StoreEntry → ℕ → Option Peer → Type 0
IsNext beat stores now None = NobodyCan beat stores now
IsNext beat stores now (Some peer) = IsLeast peer beat stores now
