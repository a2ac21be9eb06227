-- When a heartbeat shows that a step is done (PD, operator steps: `IsFinish`).
use Rattle.std.specs.Prelude.{Bool, ◌&&◌, ◌==◌, not}
use Rattle.std.specs.List.{list_any}
use Rattle.pd_types.specs.declared.region.RegionBeat.{RegionBeat}
use Rattle.pd_types.specs.declared.step.Step.{Step}
use Rattle.pd_types.specs.declared.step.Step.TheVariants.{AddLearner, PromoteLearner, TransferLeader, RemovePeer}
use Rattle.op_step.specs.Peers.{has_peer, has_store, is_pending}
use Rattle.op_step.specs.Votes.{is_voter}

-- the new peer is on its store and isn't pending; the promoted one is a voter; the leader is on the store; no peer is on the store
abbrev pub is_finished : Step → RegionBeat → Bool
is_finished (AddLearner id store) beat = has_peer id store beat && not (is_pending beat id)
is_finished (PromoteLearner id store) beat = list_any (λ peer. peer.id == id && is_voter peer) beat.region.peers
is_finished (TransferLeader id store) beat = has_peer beat.leader store beat
is_finished (RemovePeer id store) beat = not (has_store store beat)
