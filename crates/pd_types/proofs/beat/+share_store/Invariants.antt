use Rattle.std.proofs.Common.{length}
use Rattle.pd_types.proofs.beat.+share_store.Given as goal

abbrev pub decreases-share_store : goal.decreases-share_store
decreases-share_store l = length l.peers.now
