use Rattle.std.specs.Vec.Iter.{into_iter_items}
use Rattle.pd_run.proofs.Handing.{Handed}
use Rattle.pd_run.proofs.begin.hand_out.Given as goal

abbrev pub invariant-loop-store : goal.invariant-loop-store
invariant-loop-store g l = Handed {N = g.row.N.Denot} (into_iter_items l.initial.ports) (into_iter_items l.ports) (into_iter_items l.initial.store-iterator) (into_iter_items l.store-iterator) l.works.items
