use Rattle.std.proofs.Common.{◌≡◌, ◌++◌, All, map}
use Rattle.std.specs.Vec.Iter.{into_iter_items}
use Rattle.pd_shared.specs.Shares.{IsOwn, ticket_by}
use Rattle.pd_shared.proofs.shared.tickets_of.Given as goal

abbrev pub invariant-loop-share : goal.invariant-loop-share
invariant-loop-share g l =
    (l.tickets.items ++ map ticket_by (into_iter_items l.share-iterator) ≡ map ticket_by (into_iter_items l.initial.share-iterator))
    × (All IsOwn (into_iter_items l.share-iterator) → All IsOwn (into_iter_items l.initial.share-iterator))
