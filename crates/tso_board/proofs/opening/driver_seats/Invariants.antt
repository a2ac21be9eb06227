use Rattle.std.proofs.Common.{◌≡◌, [], map}
use Rattle.std.specs.Prelude.{All}
use Rattle.tso_model.specs.Moves.{numbers_from, driver_view}
use Rattle.tso_board.specs.declared.seat.DriverSeat.{DriverSeat}
use Rattle.tso_board.specs.Opened.{left}
use Rattle.tso_board.specs.Seats.{seat_view}
use Rattle.tso_board.proofs.opening.driver_seats.Given as goal

abbrev pub invariant-loop-index : goal.invariant-loop-index
invariant-loop-index l =
    (l.base.table_id ≡ l.initial.base.table_id) × (l.base.me ≡ (left l.fn.setup l.index 0, []))
    × (map seat_view l.seats.items ≡ map (driver_view l.fn.setup) (numbers_from 1 l.index))
    × All (λ (s : DriverSeat). s.seat.table_id ≡ l.table.shared.table_id) l.seats.items
