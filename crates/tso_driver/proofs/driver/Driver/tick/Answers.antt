use Rattle.std.proofs.Common.{◌≡◌, true, sym, ◌∙◌}
use Rattle.tso_model.specs.Steps.{HasClaim}
use Rattle.tso_board.specs.declared.seat.DriverSeat.{DriverSeat}
use Rattle.tso_board.specs.Seats.{seat_view}
use Rattle.tso_driver.proofs.Driven.{did_tick, settled_may, has_window, leads_by, none_of, from_idle, from_moved, from_too_late, from_tick_lost, from_saved}
use Rattle.tso_driver.proofs.driver.Driver.tick.Goals as goal

-- a seat that holds a term has a window
has : (s : DriverSeat) → (seat_view s).holds ≡ true → HasClaim (seat_view s)
has s leads = has_window (seat_view s) s.latest s.newest (s.claims_held (sym s.held ∙ leads))

pub returns-in_default-next_of_tick-clause-did : goal.returns-in_default-next_of_tick-clause-did
returns-in_default-next_of_tick-clause-did c = did_tick _ _ _ _ (has c.args.self.now.seat) c.args.self.now.settled (from_idle _ _ _ _ (sym c.held.ensures.value ∙ c.in-Some.is) _ c.raise-cursor.ensures.step (sym c.next_of_tick.ensures.value ∙ none_of _ c.in_default-next_of_tick.not-Some))

pub returns-then-not-is_saving-clause-made : goal.returns-then-not-is_saving-clause-made
returns-then-not-is_saving-clause-made c = from_moved _ _ _ _ (sym c.held.ensures.value ∙ c.in-Some.is) _ c.raise-cursor.ensures.step _ (sym c.next_of_tick.ensures.value ∙ c.in-Some-next_of_tick.is) _ _ (sym c.is_saving.ensures.value ∙ c.if-not-is_saving.true) c.raise.ensures.step

pub returns-then-not-is_saving-clause-did : goal.returns-then-not-is_saving-clause-did
returns-then-not-is_saving-clause-did c = did_tick _ _ _ _ (has c.args.self.now.seat) c.args.self.now.settled (returns-then-not-is_saving-clause-made c)

pub returns-then-is_past_clock-clause-did : goal.returns-then-is_past_clock-clause-did
returns-then-is_past_clock-clause-did c = did_tick _ _ _ _ (has c.args.self.now.seat) c.args.self.now.settled (from_too_late _ _ _ _ (sym c.held.ensures.value ∙ c.in-Some.is) _ c.raise-cursor.ensures.step _ (sym c.next_of_tick.ensures.value ∙ c.in-Some-next_of_tick.is) (sym c.is_saving.ensures.value ∙ c.if-not-is_saving.false) (sym c.is_past_clock.ensures.value ∙ c.if-is_past_clock.true))

pub returns-in-Err-clause-did : goal.returns-in-Err-clause-did
returns-in-Err-clause-did c = did_tick _ _ _ _ (has c.args.self.now.seat) c.args.self.now.settled (from_tick_lost _ _ _ _ (sym c.held.ensures.value ∙ c.in-Some.is) _ c.raise-cursor.ensures.step _ (sym c.next_of_tick.ensures.value ∙ c.in-Some-next_of_tick.is) (sym c.is_saving.ensures.value ∙ c.if-not-is_saving.false) (sym c.is_past_clock.ensures.value ∙ c.if-is_past_clock.false) _ _ _ c.in-Err.ensures.missed c.resign.ensures.step)

pub returns-clause-made : goal.returns-clause-made
returns-clause-made c =
    let held = sym c.held.ensures.value ∙ c.in-Some.is in
    let leads = (leads_by (seat_view c.args.self.now.seat) _ held).0 in
    from_saved _ _ _ _ held _ c.raise-cursor.ensures.step _ (sym c.next_of_tick.ensures.value ∙ c.in-Some-next_of_tick.is) (sym c.is_saving.ensures.value ∙ c.if-not-is_saving.false) (sym c.is_past_clock.ensures.value ∙ c.if-is_past_clock.false)
    (settled_may (seat_view c.args.self.now.seat) leads (has c.args.self.now.seat leads) c.args.self.now.settled) _ c.in_default-save.ensures.saved _ _ c.raise-2.ensures.step _ c.publish.ensures.step

pub returns-clause-did : goal.returns-clause-did
returns-clause-did c = did_tick _ _ _ _ (has c.args.self.now.seat) c.args.self.now.settled (returns-clause-made c)
