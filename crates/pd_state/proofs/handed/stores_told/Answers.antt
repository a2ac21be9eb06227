use Rattle.std.proofs.Common.{◌∙◌, ap}
use Rattle.meta_store.specs.declared.record.Cell.{Cell}
use Rattle.pd_state.specs.HandedOut.{store_in}
use Rattle.pd_state.specs.Steps.{entry_more}
use Rattle.pd_state.proofs.HandedLemmas.{stores_next}
use Rattle.pd_state.proofs.handed.stores_told.Goals as goal

pub loop-cell-preserved : goal.loop-cell-preserved
loop-cell-preserved c =
    c.in_ok-take_store.ensures.ok ∙ ap (λ (cell : Cell). entry_more c.args.began (store_in cell) c.loop-cell.stores) c.cell-item.is
    ∙ stores_next c.args.began c.args.cells.now c.loop-cell.cell-index c.cell-item.result c.loop-cell.stores c.loop-cell-test.true c.loop-cell.invariant
