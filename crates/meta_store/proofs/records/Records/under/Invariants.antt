use Rattle.std.proofs.Common.{◌≡◌, take}
use Rattle.std.specs.List.{filter}
use Rattle.meta_store.specs.declared.record.Cell.{Cell}
use Rattle.meta_store.specs.Cells.{begins_with}
use Rattle.meta_store.proofs.records.Records.under.Given as goal

abbrev pub invariant-loop-one : goal.invariant-loop-one
invariant-loop-one l = l.cells.items ≡ filter (λ (cell : Cell). begins_with l.prefix cell.key) (take l.one-index l.one-items)
