-- When a crew is whole, and what board a ledger is of.
use Rattle.std.specs.Prelude.{◌≡◌, List, map, All}
use Rattle.pd_types.specs.declared.oracle.Batch.{Batch}
use Rattle.pd_types.specs.declared.oracle.Window.{Window}
use Rattle.tso_model.specs.declared.view.View.{View}
use Rattle.tso_board.specs.declared.seat.DriverSeat.{DriverSeat}
use Rattle.tso_board.specs.declared.pass.Pass.{Pass}
use Rattle.tso_board.specs.declared.opening.Crew.{Crew}
use Rattle.tso_board.specs.declared.board.Board.{Board}
use Rattle.tso_board.specs.declared.ledger.Ledger.{Ledger}
use Rattle.tso_board.specs.Boards.{setup_of}
use Rattle.tso_board.specs.Seats.{IsSeatOf, seat_view}
use Rattle.tso_board.specs.Passes.{IsPassOf, pass_view}
use Rattle.tso_board.specs.Ledger.{GatheredFrom, HasEach}

-- the crew has every seat and every pass of its board, in any order; notes may be missing
pub record IsWhole (c : Crew) : Type 0 where
  pub seats : All (λ (s : DriverSeat). IsSeatOf s c.board) c.seats.items
  pub passes : All (λ (p : Pass). IsPassOf p c.board) c.passes.items
  pub drivers : HasEach (setup_of c.board).drivers (map (λ (v : View). v.driver) (map seat_view c.seats.items))
  pub clients : HasEach (setup_of c.board).clients (map (λ (v : View). v.client) (map pass_view c.passes.items))

-- the ledger was gathered from this board
abbrev pub IsLedgerOf : Ledger → Board → Type 0
IsLedgerOf l b = l.mark.table_id ≡ b.table.shared.table_id

-- its windows, the opening one first
abbrev pub ledger_windows : Ledger → List Window
ledger_windows l = l.windows

-- its batches
abbrev pub ledger_batches : Ledger → List Batch
ledger_batches l = l.batches

-- the ledger's windows and batches are gathered from the crew's drivers and clients
abbrev pub IsGathered : Ledger → Crew → Type 0
IsGathered l c = GatheredFrom (setup_of c.board) (map seat_view c.seats.items) (map pass_view c.passes.items) (ledger_windows l) (ledger_batches l)
