use Rattle.std.proofs.Common.{◌≡◌, take}
use Rattle.meta_store.proofs.records.Records.copy.Given as goal

abbrev pub invariant-loop-one : goal.invariant-loop-one
invariant-loop-one l = l.cells.items ≡ take l.one-index l.one-items
