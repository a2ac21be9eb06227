use Rattle.std.proofs.Common.{sym, ◌∙◌}
use Rattle.pd_script.proofs.Cutting.{item_goes_on, item_is_last, never}
use Rattle.pd_script.proofs.items.item.Goals as goal

pub loop-i-preserved : goal.loop-i-preserved
loop-i-preserved c = item_goes_on _ _ c.loop-i-test.true (sym c.is_separator.ensures.value ∙ c.if-is_separator.false) c.loop-i.invariant

pub returns : goal.returns
returns c = record { value = item_is_last _ _ c.loop-i-test.false c.loop-i.invariant; shorter = λ e. absurd (never e) }
