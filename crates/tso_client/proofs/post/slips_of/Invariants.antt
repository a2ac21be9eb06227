use Rattle.std.proofs.Common.{◌≡◌, ◌++◌, All, map}
use Rattle.std.specs.Vec.Iter.{into_iter_items}
use Rattle.tso_client.specs.Slips.{IsOpen, slip_by}
use Rattle.tso_client.proofs.post.slips_of.Given as goal

abbrev pub invariant-loop-ticket : goal.invariant-loop-ticket
invariant-loop-ticket g l = (l.slips.items ++ map slip_by (into_iter_items l.ticket-iterator) ≡ map slip_by (into_iter_items l.initial.ticket-iterator)) × All IsOpen (into_iter_items l.ticket-iterator)
