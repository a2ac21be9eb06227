use Rattle.region_tree.proofs.Lawful.{again_fresh, older_stale, overlapped_stale, newer_fresh}
use Rattle.region_tree.proofs.laws.an_older_heartbeat_is_stale.Goals as goal

pub returns : goal.returns
returns c = record { again = again_fresh; older = older_stale; overlapped = overlapped_stale; newer = newer_fresh }
