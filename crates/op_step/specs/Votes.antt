-- A majority of voters on live stores (TiKV documentation, "Raft": a group goes on while a majority of its voters answers).
use Rattle.std.specs.Prelude.{ℕ, ◌*◌, ◌<◌, ◌≤◌, Bool, ◌&&◌, not, List, count_by}
use Rattle.pd_types.specs.declared.region.Peer.{Peer}
use Rattle.pd_types.specs.declared.region.RegionBeat.{RegionBeat}
use Rattle.store_table.specs.declared.entry.StoreEntry.{StoreEntry}
use Rattle.store_table.specs.Entries.{is_live}
use Rattle.pd_types.specs.Roles.{is_voter as has_vote}
use Rattle.op_step.specs.Peers.{is_down}

-- the peer's role is Voter
abbrev pub is_voter : Peer → Bool
is_voter peer = has_vote peer.role

-- the voter is on a live store, and isn't down
abbrev pub is_live_voter : RegionBeat → List StoreEntry → ℕ → Peer → Bool
is_live_voter beat stores now peer = is_voter peer && is_live peer.store now stores && not (is_down beat peer.id)

-- how many voters the region has
abbrev pub voters_of : RegionBeat → ℕ
voters_of beat = count_by is_voter beat.region.peers

-- how many of them are live
abbrev pub live_of : RegionBeat → List StoreEntry → ℕ → ℕ
live_of beat stores now = count_by (is_live_voter beat stores now) beat.region.peers

-- more than half of the region's voters are live
abbrev pub HasMajority : RegionBeat → List StoreEntry → ℕ → Type 0
HasMajority beat stores now = voters_of beat < 2 * live_of beat stores now

-- half of the region's voters or fewer are live
abbrev pub LacksMajority : RegionBeat → List StoreEntry → ℕ → Type 0
LacksMajority beat stores now = 2 * live_of beat stores now ≤ voters_of beat
