use Rattle.std.specs.Vec.Iter.{into_iter_items}
use Rattle.pd_shared.specs.Shares.{shared_of}
use Rattle.pd_run.proofs.Opening.{Ported}
use Rattle.pd_run.proofs.begin.open_cluster.Given as goal

abbrev pub invariant-loop-end : goal.invariant-loop-end
invariant-loop-end g l = Ported {N = g.row.N.Denot} (shared_of l.cluster-inside.turn l.cluster-inside.driver) l.fn.pipes.items (into_iter_items l.end-iterator) (into_iter_items l.shares) l.ports.items
