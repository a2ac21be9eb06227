-- What a heartbeat says of a region's peers (kvproto, `metapb.Peer` and `pdpb.RegionHeartbeatRequest`).
use Rattle.std.specs.Prelude.{ℕ, Bool, ◌&&◌, not, ◌==◌, List, Option, find}
use Rattle.std.specs.List.{list_any}
use Rattle.pd_types.specs.BeatCheck.{has_id as is_id_among, has_store as is_store_among}
use Rattle.pd_types.specs.declared.region.Peer.{Peer}
use Rattle.pd_types.specs.declared.region.RegionBeat.{RegionBeat}
use Rattle.store_table.specs.declared.entry.StoreEntry.{StoreEntry}
use Rattle.store_table.specs.Entries.{is_live}

-- the peer of this id on this store
abbrev pub is_peer : ℕ → ℕ → Peer → Bool
is_peer id store peer = peer.id == id && peer.store == store

-- the region has that peer on that store
abbrev pub has_peer : ℕ → ℕ → RegionBeat → Bool
has_peer id store beat = list_any (is_peer id store) beat.region.peers

-- the region has a peer on the store
abbrev pub has_store : ℕ → RegionBeat → Bool
has_store store beat = is_store_among beat.region.peers store

-- the region has a peer of this id
abbrev pub has_id : ℕ → RegionBeat → Bool
has_id id beat = is_id_among beat.region.peers id

-- the region's peer on the store
abbrev pub peer_on : ℕ → RegionBeat → Option Peer
peer_on store beat = find (λ peer. peer.store == store) beat.region.peers

-- the leader reports the peer as down
abbrev pub is_down : RegionBeat → ℕ → Bool
is_down beat id = list_any (λ down. down.peer == id) beat.down

-- the leader reports the peer as pending: it lacks parts of the log
abbrev pub is_pending : RegionBeat → ℕ → Bool
is_pending beat id = list_any (λ pending. pending == id) beat.pending

-- the peer is on a live store, and neither down nor pending
abbrev pub is_target : RegionBeat → List StoreEntry → ℕ → Peer → Bool
is_target beat stores now peer = is_live peer.store now stores && not (is_down beat peer.id) && not (is_pending beat peer.id)
