use Rattle.std.specs.Vec.Iter.{into_iter_items}
use Rattle.pd_cluster.proofs.RunLines.{Walks}
use Rattle.pd_cluster.proofs.run_lines.tasks_of.Given as goal

abbrev pub invariant-loop-line : goal.invariant-loop-line
invariant-loop-line l = Walks l.fn.script l.dealt (into_iter_items l.line-iterator)
