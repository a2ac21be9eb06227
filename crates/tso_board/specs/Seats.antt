-- What a driver's seat belongs to and knows.
use Rattle.std.specs.Prelude.{◌≡◌, ℕ, ◌-◌, vec_len}
use Rattle.std.specs.Vec.{vec_capacity}
use Rattle.tso_model.specs.declared.view.View.{View}
use Rattle.tso_board.specs.declared.board.Board.{Board}
use Rattle.tso_board.specs.declared.seat.DriverSeat.{DriverSeat}

-- the seat comes from this board
abbrev pub IsSeatOf : DriverSeat → Board → Type 0
IsSeatOf s b = s.seat.table_id ≡ b.table.shared.table_id

-- what the driver knows
abbrev pub seat_view : DriverSeat → View
seat_view s = s.seat.me.0

-- for how many more claims there is memory
abbrev pub seat_spare : DriverSeat → ℕ
seat_spare s = vec_capacity s.older - vec_len s.older
