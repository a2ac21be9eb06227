use Rattle.std.proofs.Common.{◌≡◌, ◌∙◌, ◌+◌, ◌∷◌, ◌++◌, [], false, length, map, refl, sym, ap, arith, subst}
use Rattle.std.proofs.lemmas.List.{length-map}
use Rattle.tso_model.specs.Moves.{driver_view}
use Rattle.tso_board.specs.Boards.{setup_of}
use Rattle.tso_board.specs.Seats.{IsSeatOf, seat_view}
use Rattle.pd_shared.specs.Names.{streams_of}
use Rattle.pd_run.specs.Pipes.{OpensPort, pipe_name}
use Rattle.pd_run.specs.Works.{IsClusterAt, IsNewDriver}
use Rattle.pd_run.specs.declared.driving.DriverWork.{DriverWork}
use Rattle.pd_run.specs.declared.pipe.Pipe.{Pipe}
use Rattle.pd_run.specs.declared.storing.StoreWork.{StoreWork}
use Rattle.pd_run.proofs.Leading.{cluster_last, got_same, led_more, zip_length}
use Rattle.pd_run.proofs.begin.Leading.with.Goals as goal

pub hand_out-requires : goal.hand_out-requires
hand_out-requires g c = record {
  same = omega (
    arith,
    zip_length (OpensPort {N = g.row.N.Denot} c.in_ok-cluster.field-0.cluster) c.args.start.pipes.items c.in_ok-cluster.field-0.ports.items c.in_ok-cluster.ensures.ports,
    ap length c.requires.start.pipes.stores_are,
    ap length c.requires.led.led_stores.ids,
    length-map c.args.start.pipes.items (λ (p : Pipe). p.store),
    length-map c.args.self.stores.items (λ (w : StoreWork g.row.N.Denot). w.store),
  );
}

pub returns-clause-led : goal.returns-clause-led
returns-clause-led g c =
    let w : DriverWork g.row.N.Denot g.row.B.Denot = record { number = c.args.start.driver; means = record { driver = c.of.result; share = c.in_ok-cluster.field-0.share; bench = c.args.start.bench }; lines = c.args.start.lines; answers = c.new.result; failed = false } in
    let d : c.args.start.driver ≡ length c.args.self.clusters.items + 1 = c.requires.start.driver in
    let cluster = c.in_ok-cluster.field-0.cluster in
    let share = c.in_ok-cluster.ensures.share in
    let listed : streams_of c.args.start.driver g.N.ClusterName.streams ≡ map (pipe_name c.args.start.driver) c.args.start.pipes.items =
    subst (λ n. streams_of n g.N.ClusterName.streams ≡ map (pipe_name n) c.args.start.pipes.items) (sym d) c.requires.start.listed in
    let new : IsNewDriver {N = g.row.N.Denot} {B = g.row.B.Denot} c.args._board.now (c.args.self.clusters.items ++ cluster ∷ []) w = record {
      board_is = subst (λ s. IsSeatOf s c.args._board.now) (sym c.of.ensures.seat) c.requires.start.oracle_is;
      cluster = subst (IsClusterAt (c.args.self.clusters.items ++ cluster ∷ []) c.args.start.driver) (sym (ap (λ s. s.cluster) share)) (cluster_last c.args.self.clusters.items cluster c.args.start.driver d);
      actor = ap (λ s. s.actor) share;
      view = ap seat_view c.of.ensures.seat ∙ c.requires.start.view ∙ ap (driver_view (setup_of c.args._board.now)) (sym d);
      list = ap (λ s. s.list) share;
      answers = c.new.ensures.items;
      fine = refl;
    } in
    led_more {N = g.row.N.Denot} g.N.ClusterName.streams c.args.self.clusters.items c.in_ok-cluster.field-0.cluster c.args.start.driver c.requires.start.driver c.in_ok-cluster.ensures.driver {B = g.row.B.Denot}
    c.args._board.now c.args.ids.now c.args.self.drivers.items c.args.self.stores.items c.in_ok-stores.stores.items c.requires.led c.requires.apart
    c.args.start.pipes.items c.in_ok-cluster.field-0.ports.items c.push.new.self.items c.push-2.new.self.items w c.in_ok-push.ensures.items c.in_ok-push-2.ensures.items c.requires.start.pipes listed c.in_ok-cluster.ensures.ports c.in_ok-stores.ensures.got
    c.in_ok-cluster.ensures.numbers refl new

pub returns-clause-store_lines : goal.returns-clause-store_lines
returns-clause-store_lines g c = got_same {N = g.row.N.Denot} (λ (w : StoreWork g.row.N.Denot). w.lines) (λ p old new got. got.lines_are) c.in_ok-cluster.field-0.ports.items c.args.self.stores.items c.in_ok-stores.stores.items c.in_ok-stores.ensures.got
