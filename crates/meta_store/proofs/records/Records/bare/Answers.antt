use Rattle.std.proofs.Common.{◌∙◌, List, map, sym, ap, subst, arith}
use Rattle.std.proofs.lemmas.List.{take_all}
use Rattle.meta_store.specs.declared.record.Cell.{Cell}
use Rattle.meta_store.specs.Cells.{AreRising}
use Rattle.meta_store.specs.Known.{bare}
use Rattle.meta_store.proofs.Kept.{bare_rises}
use Rattle.meta_store.proofs.records.Records.bare.Goals as goal

pub invariant_of-result : goal.invariant_of-result
invariant_of-result c =
    subst AreRising (sym (c.loop-cell.invariant ∙ ap (λ (cells : List Cell). map bare cells) (take_all c.loop-cell.cell-index c.args.cells.now (omega (arith, c.loop-cell-test.false)))))
    (bare_rises c.args.cells.now c.requires)
