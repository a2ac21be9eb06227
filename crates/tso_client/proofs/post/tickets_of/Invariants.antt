use Rattle.std.proofs.Common.{◌≡◌, ◌++◌, map}
use Rattle.std.specs.Vec.Iter.{into_iter_items}
use Rattle.tso_client.specs.Slips.{ticket_by}
use Rattle.tso_client.proofs.post.tickets_of.Given as goal

abbrev pub invariant-loop-slip : goal.invariant-loop-slip
invariant-loop-slip g l = l.tickets.items ++ map ticket_by (into_iter_items l.slip-iterator) ≡ map ticket_by (into_iter_items l.initial.slip-iterator)
