use Rattle.std.proofs.Common.{rules, ◌≡◌, ◌∙◌, ◌++◌, List, length, map, refl, sym, ap, arith, subst}
use Rattle.std.specs.Vec.Iter.{into_iter_items, into_iter_len}
use Rattle.pd_run.specs.Crews.{AreStarts}
use Rattle.pd_run.specs.declared.begin.Start.{Start}
use Rattle.pd_run.specs.declared.driving.DriverWork.{DriverWork}
use Rattle.pd_run.proofs.Leading.{led_none, mapped_on, starts_are}
use Rattle.pd_run.proofs.Lists.{made_all, none_of}
use Rattle.pd_run.proofs.begin.lead.Goals as goal

pub loop-start-init : goal.loop-start-init
loop-start-init g c =
    let all : into_iter_items c.into_iter-start-iterator.result ≡ c.args.starts.items = c.into_iter-start-iterator.ensures.into_iter_gives.0 in
    let none = c.new.ensures.items in
    let nobody = c.new-2.ensures.items in
    record {
      starts = subst (λ (starts : List (Start g.row.B.Denot)). AreStarts {B = g.row.B.Denot} c.args.board.now g.N.ClusterName.meta g.N.ClusterName.streams c.args.ids.now (length c.new.result.items) starts) (sym all)
          (subst (λ n. AreStarts {B = g.row.B.Denot} c.args.board.now g.N.ClusterName.meta g.N.ClusterName.streams c.args.ids.now n c.args.starts.items) (sym (ap length none)) c.requires.starts);
      led = led_none {N = g.row.N.Denot} {B = g.row.B.Denot} c.args.board.now g.N.ClusterName.streams c.args.ids.now c.new.result.items c.new-2.result.items c.args.stores.items none nobody c.requires.stores;
      count = omega (arith, ap length none);
      lines = ap (λ (ws : List (DriverWork g.row.N.Denot g.row.B.Denot)). map (λ (w : DriverWork g.row.N.Denot g.row.B.Denot). w.lines) ws ++ map (λ (s : Start g.row.B.Denot). s.lines) (into_iter_items c.into_iter-start-iterator.result)) nobody;
      benches = ap (λ (ws : List (DriverWork g.row.N.Denot g.row.B.Denot)). map (λ (w : DriverWork g.row.N.Denot g.row.B.Denot). w.means.bench) ws ++ map (λ (s : Start g.row.B.Denot). s.bench) (into_iter_items c.into_iter-start-iterator.result)) nobody;
      store_lines = refl;
    }

pub loop-start-preserved : goal.loop-start-preserved
loop-start-preserved g c =
    let l = c.loop-start.invariant in
    let all = into_iter_items c.loop-start.start-iterator in
    let rest = into_iter_items c.next.new.self in
    let one = c.in-Some.start in
    let is = c.in-Some.ensures.steps.0 in
    let led = c.in_ok-leading.ensures in
    let next = starts_are {B = g.row.B.Denot} c.args.board.now g.N.ClusterName.meta g.N.ClusterName.streams c.args.ids.now (length c.loop-start.leading.clusters.items) all rest one l.starts is in
    record {
      starts = subst (λ n. AreStarts {B = g.row.B.Denot} c.args.board.now g.N.ClusterName.meta g.N.ClusterName.streams c.args.ids.now n rest) (sym led.count) next.1;
      led = led.led;
      count = omega (arith, led.count, l.count, ap length is);
      lines = mapped_on (λ (s : Start g.row.B.Denot). s.lines) (λ (w : DriverWork g.row.N.Denot g.row.B.Denot). w.lines) all rest one c.loop-start.leading.drivers.items _ _ is led.lines l.lines;
      benches = mapped_on (λ (s : Start g.row.B.Denot). s.bench) (λ (w : DriverWork g.row.N.Denot g.row.B.Denot). w.means.bench) all rest one c.loop-start.leading.drivers.items _ _ is led.benches l.benches;
      store_lines = led.store_lines ∙ l.store_lines;
    }

pub returns-clause-lines : goal.returns-clause-lines
returns-clause-lines g c =
    let left = into_iter_items c.loop-start.start-iterator in
    let long : into_iter_len c.loop-start.start-iterator ≡ length left = search rules in
    made_all (λ (s : Start g.row.B.Denot). s.lines) _ _ left (none_of left (sym long ∙ c.in-None.ensures.steps.0)) c.loop-start.invariant.lines ∙ ap (map (λ (s : Start g.row.B.Denot). s.lines)) c.into_iter-start-iterator.ensures.into_iter_gives.0

pub returns-clause-benches : goal.returns-clause-benches
returns-clause-benches g c =
    let left = into_iter_items c.loop-start.start-iterator in
    let long : into_iter_len c.loop-start.start-iterator ≡ length left = search rules in
    made_all (λ (s : Start g.row.B.Denot). s.bench) _ _ left (none_of left (sym long ∙ c.in-None.ensures.steps.0)) c.loop-start.invariant.benches ∙ ap (map (λ (s : Start g.row.B.Denot). s.bench)) c.into_iter-start-iterator.ensures.into_iter_gives.0
