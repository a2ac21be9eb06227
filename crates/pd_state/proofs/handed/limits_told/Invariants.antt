use Rattle.std.proofs.Common.{◌≡◌, map, take}
use Rattle.store_table.specs.declared.entry.StoreEntry.{StoreEntry}
use Rattle.pd_state.specs.HandedOut.{limits_of}
use Rattle.pd_state.proofs.handed.limits_told.Given as goal

abbrev pub invariant-loop-place : goal.invariant-loop-place
invariant-loop-place l = l.limits ≡ limits_of l.began (map (λ (entry : StoreEntry). entry.store) (take l.place l.stores))
