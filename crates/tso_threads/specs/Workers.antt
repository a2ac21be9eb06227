-- What a worker belongs to.
use Rattle.std.specs.Prelude.{◌<◌, ◌≤◌, ℕ, List, []}
use Rattle.pd_types.specs.declared.stamp.TheConstants.{LOGICAL}
use Rattle.tso_model.specs.Steps.{AtRest}
use Rattle.tso_board.specs.declared.board.Board.{Board}
use Rattle.tso_board.specs.Boards.{setup_of}
use Rattle.tso_board.specs.declared.pass.Pass.{Pass}
use Rattle.tso_board.specs.declared.seat.DriverSeat.{DriverSeat}
use Rattle.tso_board.specs.Seats.{IsSeatOf, seat_view}
use Rattle.tso_driver.specs.Settled.{IsSettled}
use Rattle.tso_board.specs.Passes.{IsPassOf, pass_view}
use Rattle.tso_driver.specs.Drivers.{IsDriverOf, spare_of}
use Rattle.tso_threads.specs.declared.crew.Drawer.{Drawer}
use Rattle.tso_threads.specs.declared.leading.Contender.{Contender}
use Rattle.tso_threads.specs.declared.crew.Worker.{Worker}
use Rattle.tso_threads.specs.declared.crew.Worker.TheVariants.{Ticks, Draws}

-- the pass comes from this board and is at rest
abbrev pub IsClientOf : Board → Pass → Type 0
IsClientOf b p = IsPassOf p b × AtRest (pass_view p)

-- the seat comes from this board, and can be a driver's
abbrev pub IsIdleOf : Board → DriverSeat → Type 0
IsIdleOf b s = IsSeatOf s b × IsSettled (seat_view s)

-- the client's pass is so, and its count is 1 to 262,143
abbrev pub IsDrawerOf : Drawer → Board → Type 0
IsDrawerOf d b = IsClientOf b d.pass × (0 < d.count) × (d.count < LOGICAL)

-- the worker's driver or pass comes from this board
abbrev pub IsWorkerOf : Board → Worker → Type 0
IsWorkerOf b (Ticks t) = IsDriverOf t.driver b
IsWorkerOf b (Draws d) = IsDrawerOf d b

-- the board has a driver
abbrev pub HasDriver : Board → Type 0
HasDriver b = 1 ≤ (setup_of b).drivers

-- a count has no items
abbrev pub no_items : {T : Type 0} → T → List (ℕ × ℕ)
no_items count = []

-- the driver comes from this board, and has room for each of its campaigns
abbrev pub IsContenderOf : Board → Contender → Type 0
IsContenderOf b c = IsDriverOf c.driver b × (c.times ≤ spare_of c.driver)

-- the driver comes from this board
abbrev pub HasContended : Board → Contender → Type 0
HasContended b c = IsDriverOf c.driver b
