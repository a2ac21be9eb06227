-- What a driver belongs to and knows.
use Rattle.std.specs.Prelude.{ℕ}
use Rattle.tso_model.specs.declared.view.View.{View}
use Rattle.tso_board.specs.declared.board.Board.{Board}
use Rattle.tso_board.specs.declared.seat.DriverSeat.{DriverSeat}
use Rattle.tso_board.specs.Seats.{IsSeatOf, seat_spare, seat_view}
use Rattle.tso_driver.specs.declared.driver.Driver.{Driver}

-- the driver's seat
abbrev pub seat_of : Driver → DriverSeat
seat_of d = d.seat

-- the driver comes from this board
abbrev pub IsDriverOf : Driver → Board → Type 0
IsDriverOf d b = IsSeatOf (seat_of d) b

-- what the driver knows
abbrev pub view_of : Driver → View
view_of d = seat_view (seat_of d)

-- for how many more claims there is memory
abbrev pub spare_of : Driver → ℕ
spare_of d = seat_spare (seat_of d)
