use Rattle.std.proofs.Common.{◌≡◌, arith, ap, ◌∙◌}
use Rattle.tso_board.specs.declared.seat.DriverSeat.{DriverSeat}
use Rattle.tso_model.specs.Moves.{driver_view}
use Rattle.tso_board.specs.Seats.{seat_view}
use Rattle.tso_board.proofs.Giving.{has_driver, seat_of_driver, base_of_driver, one_more, all_more}
use Rattle.tso_board.proofs.opening.driver_seats.Goals as goal

pub split_driver-seat-requires-clause-some : goal.split_driver-seat-requires-clause-some
split_driver-seat-requires-clause-some c =
    let h = has_driver c.args.setup c.loop-index.index 0 (omega arith) in
    (h.0, h.1, ap (λ m. m.0.give_drivers) c.loop-index.invariant.1 ∙ h.2)

pub new-requires-clause-view : goal.new-requires-clause-view
new-requires-clause-view c = seat_of_driver c.args.setup c.loop-index.index 0 _ _ c.loop-index.invariant.1 (omega arith) c.split_driver-seat.ensures.seat

pub loop-index-preserved : goal.loop-index-preserved
loop-index-preserved c =
    let items = c.in_ok-push.ensures.items in (
      c.split_driver-seat.ensures.board ∙ c.loop-index.invariant.0,
      base_of_driver c.args.setup c.loop-index.index 0 _ _ c.loop-index.invariant.1 (omega arith) c.split_driver-seat.ensures.base,
      one_more seat_view (driver_view c.args.setup) c.loop-index.seats.items _ c.new.result c.loop-index.index items c.loop-index.invariant.2 c.new.ensures.view,
      all_more (λ (s : DriverSeat). s.seat.table_id ≡ c.args.table.now.shared.table_id) c.loop-index.seats.items _ c.new.result items c.loop-index.invariant.3 (c.new.ensures.board ∙ c.split_driver-seat.ensures.same_board),
    )
