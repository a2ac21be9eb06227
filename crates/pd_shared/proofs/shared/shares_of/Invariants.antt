use Rattle.std.proofs.Common.{◌≡◌, ◌++◌, All, map}
use Rattle.std.specs.Vec.Iter.{into_iter_items}
use Rattle.pd_shared.specs.Shares.{IsOpen, share_by}
use Rattle.pd_shared.proofs.shared.shares_of.Given as goal

abbrev pub invariant-loop-ticket : goal.invariant-loop-ticket
invariant-loop-ticket g l =
    (l.shares.items ++ map (share_by l.driver) (into_iter_items l.ticket-iterator) ≡ map (share_by l.driver) (into_iter_items l.initial.ticket-iterator))
    × All (IsOpen l.driver) (into_iter_items l.ticket-iterator)
