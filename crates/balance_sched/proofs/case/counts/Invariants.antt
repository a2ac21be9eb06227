use Rattle.std.proofs.Common.{◌≡◌, take, map}
use Rattle.store_table.specs.declared.entry.StoreEntry.{StoreEntry}
use Rattle.balance_sched.specs.Tables.{count_of}
use Rattle.balance_sched.proofs.case.counts.Given as goal

abbrev pub invariant-loop-place : goal.invariant-loop-place
invariant-loop-place l = l.counts.items ≡ map (λ (entry : StoreEntry). count_of l.on.kind entry.store.id l.on.standing.now) (take l.place l.on.stores.now)
