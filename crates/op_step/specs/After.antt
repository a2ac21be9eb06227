-- The region that a step leaves (PD documentation, "Scheduling": operator steps; kvproto, `eraftpb.ConfChangeType`).
use Rattle.std.specs.Prelude.{ℕ, ◌||◌, ◌==◌, not, List, [], ◌∷◌, ◌++◌, map, filter, if◌then◌else◌}
use Rattle.std.specs.List.{list_any}
use Rattle.pd_types.specs.declared.region.Role.TheVariants as roles
use Rattle.pd_types.specs.declared.region.Peer.{Peer}
use Rattle.pd_types.specs.declared.region.RegionBeat.{RegionBeat}
use Rattle.pd_types.specs.declared.step.Step.{Step}
use Rattle.pd_types.specs.declared.step.Step.TheVariants.{AddLearner, PromoteLearner, TransferLeader, RemovePeer}
use Rattle.op_step.specs.Peers.{is_peer, has_peer}

-- the peer of this id on this store becomes a voter
abbrev pub promoted : ℕ → ℕ → Peer → Peer
promoted id store peer = if is_peer id store peer then record peer { role = roles.Voter } else peer

-- a learner is added where neither its id nor its store is in the region; a promoted peer is a voter; a removed one is gone
abbrev pub peers_after : Step → List Peer → List Peer
peers_after (AddLearner id store) peers =
    if (list_any (λ peer. peer.id == id) peers || list_any (λ peer. peer.store == store) peers) then peers else peers ++ record { id = id; store = store; role = roles.Learner } ∷ []
peers_after (PromoteLearner id store) peers = map (promoted id store) peers
peers_after (TransferLeader id store) peers = peers
peers_after (RemovePeer id store) peers = filter (λ peer. not (is_peer id store peer)) peers

-- the leader moves to a peer that the region has
abbrev pub leader_after : Step → RegionBeat → ℕ
leader_after (AddLearner id store) beat = beat.leader
leader_after (PromoteLearner id store) beat = beat.leader
leader_after (TransferLeader id store) beat = if has_peer id store beat then id else beat.leader
leader_after (RemovePeer id store) beat = beat.leader

-- the region after the step; all else stays
abbrev pub after : Step → RegionBeat → RegionBeat
after step beat = record {
  region = record { id = beat.region.id; start = beat.region.start; end = beat.region.end; epoch = beat.region.epoch; peers = peers_after step beat.region.peers };
  leader = leader_after step beat;
  down = beat.down;
  pending = beat.pending;
}

-- by how much the step raises conf_ver
abbrev pub conf_change : Step → ℕ
conf_change (AddLearner id store) = 1
conf_change (PromoteLearner id store) = 1
conf_change (TransferLeader id store) = 0
conf_change (RemovePeer id store) = 1
