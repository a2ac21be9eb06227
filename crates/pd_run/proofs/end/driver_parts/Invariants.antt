use Rattle.std.specs.Vec.Iter.{into_iter_items}
use Rattle.pd_run.proofs.Parting.{Parted}
use Rattle.pd_run.proofs.end.driver_parts.Given as goal

abbrev pub invariant-loop-driver : goal.invariant-loop-driver
invariant-loop-driver g l = Parted {N = g.row.N.Denot} {B = g.row.B.Denot} g.N.ClusterName.meta g.N.ClusterName.streams l.fn.stores.items l.fn.drivers.items (into_iter_items l.driver-iterator) (into_iter_items l.clusters) l.parts
