-- What a region heartbeat that passes its tests says (pdpb, `RegionHeartbeatRequest`; the bounds are our own choice).
use Rattle.std.specs.Prelude.{◌≡◌, ◌≢◌, ◌≤◌, ◌⊎◌, ℕ, true, [], length}
use Rattle.std.specs.List.{AllPairs, Any}
use Rattle.pd_types.specs.BeatCheck.{fails, fault_number}
use Rattle.pd_types.specs.declared.beat.BeatFault.{BeatFault}
use Rattle.pd_types.specs.declared.beat.TheConstants.{MAX_KEY, MAX_PEERS}
use Rattle.pd_types.specs.declared.region.Peer.{Peer}
use Rattle.pd_types.specs.declared.region.RegionBeat.{RegionBeat}
use Rattle.pd_types.specs.declared.region.Role.TheVariants.{Voter}
use Rattle.pd_types.specs.Keys.{is_below}

-- the peer has the leader's id, and a vote
pub record Leads (leader : ℕ) (peer : Peer) : Type 0 where
  pub id : peer.id ≡ leader
  pub votes : peer.role ≡ Voter

-- The region has 1 to 15 peers, each with an id and a store of its own; a voter among them leads; its range, whose end may be
-- missing, isn't empty; and no key is longer than 4,096 bytes.
pub record IsWellFormed (beat : RegionBeat) : Type 0 where
  pub some : 1 ≤ length beat.region.peers
  pub few : length beat.region.peers ≤ MAX_PEERS
  pub ids : AllPairs (λ (a b : Peer). a.id ≢ b.id) beat.region.peers
  pub stores : AllPairs (λ (a b : Peer). a.store ≢ b.store) beat.region.peers
  pub leader : Any (Leads beat.leader) beat.region.peers
  pub range : (beat.region.end ≡ []) ⊎ (is_below beat.region.start beat.region.end ≡ true)
  pub start : length beat.region.start ≤ MAX_KEY
  pub end : length beat.region.end ≤ MAX_KEY

-- the heartbeat fails this test, and its number is the least of all tests that it fails
pub record IsLeastFault (beat : RegionBeat) (fault : BeatFault) : Type 0 where
  pub failed : fails beat fault ≡ true
  pub least : (other : BeatFault) → fails beat other ≡ true → fault_number fault ≤ fault_number other
