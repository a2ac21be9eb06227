use Rattle.std.proofs.Common.{length}
use Rattle.pd_types.proofs.beat.+share_id.Given as goal

abbrev pub decreases-share_id : goal.decreases-share_id
decreases-share_id l = length l.peers.now
