use Rattle.std.proofs.Common.{◌∙◌, ap, sym, set}
use Rattle.std.specs.List.{insert}
use Rattle.meta_store.specs.declared.record.Cell.{Cell}
use Rattle.meta_store.proofs.Spots.{placed_known, placed_new, known_at, absent_at}
use Rattle.meta_store.proofs.records.put_in.Goals as goal

pub returns-in-Ok-clause-ok : goal.returns-in-Ok-clause-ok
returns-in-Ok-clause-ok c =
    ap (λ (one : Cell). set c.args.held.now.items c.in-Ok.place one) c.in_ok-new.ensures.ok
    ∙ sym (placed_known c.args.cell (known_at c.deref.ensures.value c.as_slice.ensures.value c.in-Ok.ensures.found))

pub returns-in_ok-insert-in-Err-clause-ok : goal.returns-in_ok-insert-in-Err-clause-ok
returns-in_ok-insert-in-Err-clause-ok c =
    c.in_ok-insert-in-Err.ensures.items ∙ ap (λ (one : Cell). insert c.args.held.now.items c.in-Err.place one) c.in_ok-new.ensures.ok ∙ sym (placed_new c.args.cell (absent_at c.deref.ensures.value c.as_slice.ensures.value c.in-Err.ensures.absent))
