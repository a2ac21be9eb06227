use Rattle.std.proofs.Common.{◌≡◌, ◌++◌, All, map}
use Rattle.std.specs.Arc.{arc_value}
use Rattle.std.specs.Vec.Iter.{into_iter_items}
use Rattle.meta_store.specs.Seats.{IsOpen, seat_by}
use Rattle.meta_store.proofs.seats.seats_of.Given as goal

abbrev pub invariant-loop-ticket : goal.invariant-loop-ticket
invariant-loop-ticket l = (l.seats.items ++ map seat_by (into_iter_items l.ticket-iterator) ≡ map seat_by (into_iter_items l.initial.ticket-iterator)) × All (IsOpen (arc_value l.turn)) (into_iter_items l.ticket-iterator)
