use Rattle.std.proofs.Common.{◌≡◌, ◌++◌, All, map}
use Rattle.std.specs.Vec.Iter.{into_iter_items}
use Rattle.pd_run.specs.Pipes.{IsNewPipe, end_by, outlet_by}
use Rattle.pd_run.proofs.begin.parted.Given as goal

abbrev pub invariant-loop-pipe : goal.invariant-loop-pipe
invariant-loop-pipe l =
    All IsNewPipe (into_iter_items l.pipe-iterator)
    × (l.givers.items ++ map outlet_by (into_iter_items l.pipe-iterator) ≡ map outlet_by (into_iter_items l.initial.pipe-iterator))
    × (l.ends.items ++ map end_by (into_iter_items l.pipe-iterator) ≡ map end_by (into_iter_items l.initial.pipe-iterator))
