use Rattle.std.proofs.Common.{◌∙◌, ◌∷◌, [], map, ap}
use Rattle.std.proofs.lemmas.List.{map-append}
use Rattle.pd_run.specs.Runs.{driver_part}
use Rattle.pd_run.proofs.Closing.{are_shares, drivers_own, has_ports, is_closed, named_ends}
use Rattle.pd_run.proofs.end.DriverParts.with.Goals as goal

pub ends_of-requires : goal.ends_of-requires
ends_of-requires g c = record { ports = has_ports {N = g.row.N.Denot} g.N.ClusterName.streams c.args.cluster c.args.self.stores.items c.requires.ports }

pub close-requires-clause-shares : goal.close-requires-clause-shares
close-requires-clause-shares g c =
    are_shares {N = g.row.N.Denot} g.N.ClusterName.streams c.args.cluster {B = g.row.B.Denot} c.args.work c.args.self.stores.items c.in_ok-ends.stores.items c.in_ok-ends.ends.shares.items c.in_ok-ends.ends.takers.items c.in_ok-ends.ensures.ends c.requires.ports c.requires.driver c.requires.apart

pub close-requires-clause-named : goal.close-requires-clause-named
close-requires-clause-named g c =
    named_ends {N = g.row.N.Denot} g.N.ClusterName.streams c.args.cluster {B = g.row.B.Denot} c.args.work c.args.self.stores.items c.in_ok-ends.stores.items c.in_ok-ends.ends.shares.items c.in_ok-ends.ends.takers.items c.in_ok-ends.ensures.ends c.requires.ports

pub returns-clause-answers : goal.returns-clause-answers
returns-clause-answers g c = ap (map driver_part) c.in_ok-push-4.ensures.items ∙ map-append driver_part c.args.self.answers.items (record { number = c.args.work.number; answers = c.args.work.answers } ∷ [])

pub returns-clause-closed : goal.returns-clause-closed
returns-clause-closed g c =
    let news = c.in_ok-ends.stores.items in
    let shares = c.in_ok-ends.ends.shares.items in
    let takers = c.in_ok-ends.ends.takers.items in
    let ends = c.in_ok-ends.ensures.ends in
    let closing = c.in_ok-cluster.ensures.closing in
    record {
      cluster = c.in_ok-cluster.field-0.cluster;
      seat = c.in_ok-cluster.field-0.seat;
      clusters_are = c.in_ok-push.ensures.items;
      seats_are = c.in_ok-push-2.ensures.items;
      closed = is_closed {N = g.row.N.Denot} g.N.ClusterName.streams c.args.cluster {B = g.row.B.Denot} c.args.work c.args.self.stores.items news shares takers ends c.requires.ports c.requires.driver c.requires.apart g.N.ClusterName.meta c.in_ok-cluster.field-0.cluster c.in_ok-cluster.field-0.seat closing;
      own = drivers_own {N = g.row.N.Denot} g.N.ClusterName.streams c.args.cluster {B = g.row.B.Denot} c.args.work c.args.self.stores.items news shares takers ends c.requires.ports c.requires.driver c.requires.apart g.N.ClusterName.meta c.in_ok-cluster.field-0.cluster c.in_ok-cluster.field-0.seat closing;
      ports = ends.ports;
      lost = ends.lost;
    }
