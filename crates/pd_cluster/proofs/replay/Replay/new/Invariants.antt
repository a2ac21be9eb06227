use Rattle.std.proofs.Common.{◌≡◌, [], length, replicate}
use Rattle.std.specs.Prelude.{None}
use Rattle.pd_cluster.specs.Clusters.{AreAlive, AreNumbered, journals_of}
use Rattle.pd_cluster.specs.Streams.{waiting_for}
use Rattle.pd_cluster.proofs.replay.Replay.new.Given as goal

abbrev pub invariant-loop-driver : goal.invariant-loop-driver
invariant-loop-driver l = record {
  leads : l.leads.items ≡ replicate l.driver None;
  journals : journals_of l.clusters.items ≡ replicate l.driver [];
  alive : AreAlive l.clusters.items;
  numbered : AreNumbered l.clusters.items;
  len : length l.clusters.items ≡ l.driver;
  streams : l.streams.items ≡ replicate l.driver (waiting_for l.lines);
}
