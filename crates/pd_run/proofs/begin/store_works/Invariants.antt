use Rattle.std.specs.Vec.Iter.{into_iter_items}
use Rattle.pd_run.specs.Pipes.{BeginsStore}
use Rattle.pd_run.proofs.Lists.{Beside}
use Rattle.pd_run.proofs.begin.store_works.Given as goal

abbrev pub invariant-loop-lines : goal.invariant-loop-lines
invariant-loop-lines g l = Beside (BeginsStore {N = g.row.N.Denot}) (into_iter_items l.initial.lines-iterator) (into_iter_items l.lines-iterator) l.works.items
