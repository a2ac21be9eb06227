-- What a region heartbeat must meet by itself (pdpb, `RegionHeartbeatRequest`; the tests and their order are our own choice).
use Rattle.std.specs.Prelude.{ℕ, List, [], ◌∷◌, length, Bool, false, not, ◌&&◌, ◌||◌, nat_eq, nat_lt, Option}
use Rattle.std.specs.List.{find, list_any}
use Rattle.pd_types.specs.declared.beat.TheConstants.{MAX_KEY, MAX_PEERS}
use Rattle.pd_types.specs.declared.beat.BeatFault.{BeatFault}
use Rattle.pd_types.specs.declared.beat.BeatFault.TheVariants.{NoPeers, TooManyPeers, DoublePeer, DoubleStore, LeaderAbsent, LeaderNotVoter, BadRange, LongKey}
use Rattle.pd_types.specs.declared.region.Peer.{Peer}
use Rattle.pd_types.specs.declared.region.RegionBeat.{RegionBeat}
use Rattle.pd_types.specs.Keys.{is_bad_range}
use Rattle.pd_types.specs.Roles.{is_voter}

-- some peer has this id
abbrev pub has_id : List Peer → ℕ → Bool
has_id peers id = list_any (λ peer. nat_eq peer.id id) peers

-- some peer is on this store
abbrev pub has_store : List Peer → ℕ → Bool
has_store peers store = list_any (λ peer. nat_eq peer.store store) peers

-- two of the peers have one id
abbrev pub shares_id : List Peer → Bool
shares_id [] = false
shares_id (peer ∷ peers) = has_id peers peer.id || shares_id peers

-- two of the peers are on one store
abbrev pub shares_store : List Peer → Bool
shares_store [] = false
shares_store (peer ∷ peers) = has_store peers peer.store || shares_store peers

-- a peer with the leader's id is no voter
abbrev pub leader_is_no_voter : List Peer → ℕ → Bool
leader_is_no_voter peers leader = list_any (λ peer. nat_eq peer.id leader && not (is_voter peer.role)) peers

-- the heartbeat fails this test
abbrev pub fails : RegionBeat → BeatFault → Bool
fails beat NoPeers = nat_eq (length beat.region.peers) 0
fails beat TooManyPeers = nat_lt MAX_PEERS (length beat.region.peers)
fails beat DoublePeer = shares_id beat.region.peers
fails beat DoubleStore = shares_store beat.region.peers
fails beat LeaderAbsent = not (has_id beat.region.peers beat.leader)
fails beat LeaderNotVoter = leader_is_no_voter beat.region.peers beat.leader
fails beat BadRange = is_bad_range beat.region.start beat.region.end
fails beat LongKey = nat_lt MAX_KEY (length beat.region.start) || nat_lt MAX_KEY (length beat.region.end)

-- the tests in their order
abbrev pub tests : List BeatFault
tests = NoPeers ∷ TooManyPeers ∷ DoublePeer ∷ DoubleStore ∷ LeaderAbsent ∷ LeaderNotVoter ∷ BadRange ∷ LongKey ∷ []

-- the first test that the heartbeat fails
abbrev pub first_fault : RegionBeat → Option BeatFault
first_fault beat = find (fails beat) tests

-- the number that a cluster answers for a test, from 1: its place among the tests
abbrev pub fault_number : BeatFault → ℕ
fault_number NoPeers = 1
fault_number TooManyPeers = 2
fault_number DoublePeer = 3
fault_number DoubleStore = 4
fault_number LeaderAbsent = 5
fault_number LeaderNotVoter = 6
fault_number BadRange = 7
fault_number LongKey = 8
