use Rattle.std.proofs.Common.{◌≡◌, map, take}
use Rattle.pd_run.specs.declared.storing.StoreWork.{StoreWork}
use Rattle.pd_run.proofs.begin.ids_of.Given as goal

abbrev pub invariant-loop-store : goal.invariant-loop-store
invariant-loop-store g l = l.ids ≡ map (λ (w : StoreWork g.row.N.Denot). w.store) (take l.store-index l.stores)
