use Rattle.std.proofs.Common.{◌<◌, All, length}
use Rattle.std.specs.Vec.Iter.{into_iter_items}
use Rattle.pd_run.specs.declared.storing.StoreWork.{StoreWork}
use Rattle.pd_run.proofs.Taking.{Taken}
use Rattle.pd_run.proofs.end.ends_of.Given as goal

abbrev pub invariant-loop-store : goal.invariant-loop-store
invariant-loop-store g l =
    All (λ (w : StoreWork g.row.N.Denot). 0 < length w.ports.items) (into_iter_items l.store-iterator)
    × Taken {N = g.row.N.Denot} l.initial.shares.items (into_iter_items l.initial.store-iterator) (into_iter_items l.store-iterator) l.works.items l.shares.items l.takers.items
