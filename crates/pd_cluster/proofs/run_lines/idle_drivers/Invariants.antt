use Rattle.std.proofs.Common.{◌≡◌, [], map}
use Rattle.std.specs.Prelude.{replicate}
use Rattle.std.specs.Vec.{vec_items}
use Rattle.pd_cluster.proofs.run_lines.idle_drivers.Given as goal

abbrev pub invariant-loop-driver : goal.invariant-loop-driver
invariant-loop-driver l = map vec_items l.lists.items ≡ replicate l._driver []
