use Rattle.std.proofs.Common.{◌≡◌, ◌+◌, ◌++◌, length, map}
use Rattle.std.specs.Vec.Iter.{into_iter_items}
use Rattle.pd_run.specs.Crews.{AreLed, AreStarts}
use Rattle.pd_run.specs.declared.begin.Start.{Start}
use Rattle.pd_run.specs.declared.driving.DriverWork.{DriverWork}
use Rattle.pd_run.specs.declared.storing.StoreWork.{StoreWork}
use Rattle.pd_run.proofs.begin.lead.Given as goal

abbrev pub invariant-loop-start : goal.invariant-loop-start
invariant-loop-start g l = record {
  starts : AreStarts {B = g.row.B.Denot} l.board g.N.ClusterName.meta g.N.ClusterName.streams l.ids (length l.leading.clusters.items) (into_iter_items l.start-iterator);
  led : AreLed {N = g.row.N.Denot} {B = g.row.B.Denot} l.board g.N.ClusterName.streams l.ids l.leading.clusters.items l.leading.drivers.items l.leading.stores.items;
  count : length l.leading.clusters.items + length (into_iter_items l.start-iterator) ≡ length (into_iter_items l.initial.start-iterator);
  lines : map (λ (w : DriverWork g.row.N.Denot g.row.B.Denot). w.lines) l.leading.drivers.items ++ map (λ (s : Start g.row.B.Denot). s.lines) (into_iter_items l.start-iterator) ≡ map (λ (s : Start g.row.B.Denot). s.lines) (into_iter_items l.initial.start-iterator);
  benches : map (λ (w : DriverWork g.row.N.Denot g.row.B.Denot). w.means.bench) l.leading.drivers.items ++ map (λ (s : Start g.row.B.Denot). s.bench) (into_iter_items l.start-iterator) ≡ map (λ (s : Start g.row.B.Denot). s.bench) (into_iter_items l.initial.start-iterator);
  store_lines : map (λ (w : StoreWork g.row.N.Denot). w.lines) l.leading.stores.items ≡ map (λ (w : StoreWork g.row.N.Denot). w.lines) l.fn.stores.items;
}
