use Rattle.std.proofs.Common.{◌≡◌, ◌++◌}
use Rattle.std.specs.Vec.Iter.{into_iter_items}
use Rattle.pd_run.proofs.runner.others.Given as goal

abbrev pub invariant-loop-bench : goal.invariant-loop-bench
invariant-loop-bench g l = l.others.items ++ into_iter_items l.bench-iterator ≡ into_iter_items l.initial.bench-iterator
