use Rattle.std.proofs.Common.{◌≡◌, ◌++◌, map}
use Rattle.std.specs.Vec.Iter.{into_iter_items}
use Rattle.meta_store.specs.Seats.{ticket_by}
use Rattle.meta_store.proofs.seats.tickets_of.Given as goal

abbrev pub invariant-loop-seat : goal.invariant-loop-seat
invariant-loop-seat l = l.tickets.items ++ map ticket_by (into_iter_items l.seat-iterator) ≡ map ticket_by (into_iter_items l.initial.seat-iterator)
