-- Counts over a region's peers as a step would leave them. Private contracts alone cite this.
use Rattle.std.specs.Prelude.{Bool, ◌&&◌, not}
use Rattle.pd_types.specs.declared.region.Peer.{Peer}
use Rattle.pd_types.specs.declared.step.Step.{Step}
use Rattle.pd_types.specs.declared.step.Step.TheVariants.{AddLearner, PromoteLearner, TransferLeader, RemovePeer}
use Rattle.op_step.specs.Peers.{is_peer}
use Rattle.op_step.specs.After.{promoted}

-- the peer passes the test as the step leaves it, and isn't gone
abbrev pub passes_after : Step → (Peer → Bool) → Peer → Bool
passes_after (AddLearner id store) passes peer = passes peer
passes_after (PromoteLearner id store) passes peer = passes (promoted id store peer)
passes_after (TransferLeader id store) passes peer = passes peer
passes_after (RemovePeer id store) passes peer = not (is_peer id store peer) && passes peer
