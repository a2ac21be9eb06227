use Rattle.std.proofs.Common.{◌≡◌, ◌++◌, All, false, map}
use Rattle.std.specs.Vec.Iter.{into_iter_items}
use Rattle.pd_run.specs.Ends.{part_of}
use Rattle.pd_run.specs.Runs.{store_part}
use Rattle.pd_run.specs.declared.storing.StoreWork.{StoreWork}
use Rattle.pd_run.proofs.end.store_answers.Given as goal

abbrev pub invariant-loop-work : goal.invariant-loop-work
invariant-loop-work g l =
    (map store_part l.answers.items ++ map (part_of {N = g.row.N.Denot}) (into_iter_items l.work-iterator) ≡ map (part_of {N = g.row.N.Denot}) (into_iter_items l.initial.work-iterator))
    × (All (λ (w : StoreWork g.row.N.Denot). w.failed ≡ false) (into_iter_items l.work-iterator) → All (λ (w : StoreWork g.row.N.Denot). w.failed ≡ false) (into_iter_items l.initial.work-iterator))
