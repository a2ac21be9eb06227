use Rattle.std.proofs.Common.{refl, sym, ◌∙◌}
use Rattle.tso_driver.proofs.Driven.{did_lead, from_spent, from_past, from_beaten, from_lost, from_won}
use Rattle.tso_driver.proofs.driver.Driver.lead.Goals as goal

pub returns-then-cell-eq-LAST_TERM-clause-did : goal.returns-then-cell-eq-LAST_TERM-clause-did
returns-then-cell-eq-LAST_TERM-clause-did c = did_lead _ _ _ _ (from_spent _ _ _ _ c.read_cell-cell.ensures.step c.if-cell-eq-LAST_TERM.true)

pub returns-then-is_past_clock-clause-did : goal.returns-then-is_past_clock-clause-did
returns-then-is_past_clock-clause-did c = did_lead _ _ _ _ (from_past _ _ _ _ c.read_cell-cell.ensures.step c.if-cell-eq-LAST_TERM.false _ c.next_of_lead-lo.ensures.value (sym c.is_past_clock.ensures.value ∙ c.if-is_past_clock.true))

pub returns-in-Err-clause-did : goal.returns-in-Err-clause-did
returns-in-Err-clause-did c = did_lead _ _ _ _ (from_beaten _ _ _ _ c.read_cell-cell.ensures.step c.if-cell-eq-LAST_TERM.false _ c.next_of_lead-lo.ensures.value (sym c.is_past_clock.ensures.value ∙ c.if-is_past_clock.false) _ _ c.in-Err.ensures.missed c.in-Err.ensures.other)

pub returns-in-Err-save-clause-did : goal.returns-in-Err-save-clause-did
returns-in-Err-save-clause-did c = did_lead _ _ _ _ (from_lost _ _ _ _ c.read_cell-cell.ensures.step c.if-cell-eq-LAST_TERM.false _ c.next_of_lead-lo.ensures.value (sym c.is_past_clock.ensures.value ∙ c.if-is_past_clock.false) _ _ c.in-Ok.ensures.claimed _ _ _ c.in-Err-save.ensures.missed c.resign.ensures.step)

pub returns-clause-did : goal.returns-clause-did
returns-clause-did c = did_lead _ _ _ _ (from_won _ _ _ _ c.read_cell-cell.ensures.step c.if-cell-eq-LAST_TERM.false _ c.next_of_lead-lo.ensures.value (sym c.is_past_clock.ensures.value ∙ c.if-is_past_clock.false) _ _ c.in-Ok.ensures.claimed _ refl _ c.in_default.ensures.saved _ _ c.raise.ensures.step _ c.publish.ensures.step)
