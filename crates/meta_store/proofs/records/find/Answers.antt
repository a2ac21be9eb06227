use Rattle.std.proofs.Common.{◌∙◌, sym, ap, Some}
use Rattle.meta_store.specs.declared.record.Cell.{Cell}
use Rattle.meta_store.proofs.Spots.{cell_found, cell_absent}
use Rattle.meta_store.proofs.records.find.Goals as goal

pub returns-in-Ok : goal.returns-in-Ok
returns-in-Ok c = record {
  value = ap (λ (one : Cell). Some one) (c.cell.ensures.value ∙ c.index-held-place.is) ∙ sym (cell_found c.index-held-place.result c.in-Ok.ensures.found);
}

pub returns-in-Err : goal.returns-in-Err
returns-in-Err c = record { value = sym (cell_absent c.in-Err.ensures.absent) }
