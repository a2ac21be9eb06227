use Rattle.std.proofs.Common.{◌≡◌, ◌++◌, map}
use Rattle.tso_model.specs.Moves.{numbers_from, driver_view}
use Rattle.tso_core.specs.Seated.{view_of}
use Rattle.tso_core.proofs.opening.seat_drivers.Given as goal

abbrev pub invariant-loop-index : goal.invariant-loop-index
invariant-loop-index l = map view_of l.seats.items ≡ map view_of l.initial.seats.items ++ map (driver_view l.setup) (numbers_from 1 l.index)
