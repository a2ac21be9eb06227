use Rattle.std.proofs.Common.{◌+◌, List, ◌∷◌, ◌++◌, map, drop, sym, ap, ◌∙◌, arith}
use Rattle.std.proofs.lemmas.List.{drop_more}
use Rattle.tso_model.specs.declared.entries.Grant.{Grant}
use Rattle.tso_board.specs.declared.pass.Pass.{Pass}
use Rattle.tso_board.proofs.Gathers.{batches_step}
use Rattle.tso_board.proofs.ledger.batches_of.Goals as goal

pub loop-pass-preserved : goal.loop-pass-preserved
loop-pass-preserved c =
    let p = c.pass-item.result in
    batches_step _ _ p _ _ _ (drop_more c.args.passes.now c.loop-pass.pass-index p (omega arith) ∙ ap (λ (x : Pass). x ∷ drop (c.loop-pass.pass-index + 1) c.args.passes.now) (sym c.pass-item.is))
    (c.in_ok-add_batches.ensures.ok ∙ ap (λ (l : List Grant). c.loop-pass.batches.items ++ map (λ (g : Grant). g.batch) l) (c.as_slice.ensures.value ∙ sym p.granted)) c.loop-pass.invariant
