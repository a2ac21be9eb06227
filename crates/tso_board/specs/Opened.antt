-- What a new board comes with. Own choice: all numbers are given at once, and in their order.
use Rattle.std.specs.Prelude.{◌≡◌, ℕ, ◌+◌, ◌-◌, ◌*◌, [], map, All}
use Rattle.pd_types.specs.declared.stamp.TheConstants.{LOGICAL}
use Rattle.tso_model.specs.declared.view.View.{View}
use Rattle.tso_model.specs.declared.view.Setup.{Setup}
use Rattle.tso_model.specs.Moves.{blank, numbers_from, driver_view, client_view}
use Rattle.tso_board.specs.declared.seat.DriverSeat.{DriverSeat}
use Rattle.tso_board.specs.declared.pass.Pass.{Pass}
use Rattle.tso_board.specs.declared.opening.Crew.{Crew}
use Rattle.tso_board.specs.Boards.{setup_of}
use Rattle.tso_board.specs.Seats.{IsSeatOf, seat_view}
use Rattle.tso_board.specs.Passes.{IsPassOf, pass_view}

-- the base once it has given the first i drivers and the first j clients away
abbrev pub left : Setup → ℕ → ℕ → View
left k i j = record (blank k.cell) { give_drivers = numbers_from (i + 1) (k.drivers - i); give_clients = numbers_from (j + 1) (k.clients - j); quota = (k.clients - j) * LOGICAL }

-- A new board: each driver has a seat and each client a pass, by rising numbers from 1 on, none of whom did anything, and there are no notes
pub record IsOpened (k : Setup) (c : Crew) : Type 0 where
  pub setup : setup_of c.board ≡ k
  pub drivers : map seat_view c.seats.items ≡ map (driver_view k) (numbers_from 1 k.drivers)
  pub seats : All (λ (s : DriverSeat). IsSeatOf s c.board) c.seats.items
  pub clients : map pass_view c.passes.items ≡ map (client_view k) (numbers_from 1 k.clients)
  pub passes : All (λ (p : Pass). IsPassOf p c.board) c.passes.items
  pub notes : c.notes.items ≡ []
