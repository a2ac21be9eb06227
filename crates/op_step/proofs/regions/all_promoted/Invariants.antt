use Rattle.std.proofs.Common.{◌≡◌, ◌++◌, drop, map}
use Rattle.op_step.specs.After.{promoted}
use Rattle.op_step.proofs.regions.all_promoted.Given as goal

abbrev pub invariant-loop-peer : goal.invariant-loop-peer
invariant-loop-peer l = l.all.items ++ map (promoted l.id l.store) (drop l.peer-index l.peers) ≡ map (promoted l.id l.store) l.peers
