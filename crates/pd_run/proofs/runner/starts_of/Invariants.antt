use Rattle.std.specs.Vec.Iter.{into_iter_items}
use Rattle.pd_run.proofs.Starting.{Begun}
use Rattle.pd_run.proofs.runner.starts_of.Given as goal

abbrev pub invariant-loop-oracle : goal.invariant-loop-oracle
invariant-loop-oracle g l = Begun {B = g.row.B.Denot} l.fn.oracle.items (into_iter_items l.oracle-iterator) l.fn.pipes.items (into_iter_items l.pipes) l.fn.lines.items (into_iter_items l.lines) l.fn.metas.seats.items l.metas.seats.items (into_iter_items l.fn.benches) (into_iter_items l.benches) l.driver l.starts.items
