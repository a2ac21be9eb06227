use Rattle.std.proofs.Common.{◌≡◌, map, take}
use Rattle.meta_store.specs.Known.{bare}
use Rattle.meta_store.proofs.records.Records.bare.Given as goal

abbrev pub invariant-loop-cell : goal.invariant-loop-cell
invariant-loop-cell l = l.held.items ≡ map bare (take l.cell-index l.cells)
