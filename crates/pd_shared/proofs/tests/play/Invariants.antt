use Rattle.std.proofs.Common.{◌≡◌}
use Rattle.pd_shared.specs.Shares.{actor_of, shared_of}
use Rattle.pd_shared.proofs.tests.play.Given as goal

-- the two shares stay the driver's and the store's, of this cluster
abbrev pub invariant-loop-by_driver : goal.invariant-loop-by_driver
invariant-loop-by_driver g l =
    let cluster = shared_of l.cluster-inside.turn l.cluster-inside.driver in
    (goal.iterator-loop-by_driver g).can_next l.by_driver-iterator × (goal.iterator-loop-by_driver g).is_finite l.by_driver-iterator
    × ((l.driver.cluster ≡ cluster) × (l.driver.actor ≡ actor_of cluster.driver 0)) × ((l.store.cluster ≡ cluster) × (l.store.actor ≡ actor_of cluster.driver 1))
