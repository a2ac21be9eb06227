use Rattle.std.proofs.Common.{rules, ◌≡◌, ◌∙◌, [], length, map, refl, sym, ap, subst}
use Rattle.std.specs.Prelude.{All}
use Rattle.std.specs.List.{AllZip}
use Rattle.std.specs.Vec.Iter.{into_iter_items, into_iter_len}
use Rattle.pd_shared.specs.Shares.{SharedValue, actor_of, new_share, shared_of}
use Rattle.pd_run.specs.Pipes.{OpensPort}
use Rattle.pd_run.specs.declared.storing.Port.{Port}
use Rattle.pd_run.proofs.Lists.{none_of}
use Rattle.pd_shared.specs.Outlets.{OutletValue}
use Rattle.pd_run.proofs.Opening.{Ported, none_pushed, outlets_of, ported_all, ported_more, ported_none}
use Rattle.pd_run.proofs.begin.open_cluster.Goals as goal

pub open-requires-clause-givers : goal.open-requires-clause-givers
open-requires-clause-givers g c =
    outlets_of g.N.ClusterName.streams c.args.driver c.args.pipes.items c.args.stores.now c.in_ok-givers.givers.items c.in_ok-givers.ensures.givers c.requires.streams c.requires.pipes.stores_are c.requires.stores

pub open-requires-clause-none : goal.open-requires-clause-none
open-requires-clause-none g c = subst (All (λ (o : OutletValue). o.pushed ≡ [])) (sym c.in_ok-givers.ensures.givers) (none_pushed c.args.pipes.items)

pub loop-end-init : goal.loop-end-init
loop-end-init g c =
    let cluster = c.in_ok-cluster.cluster in
    subst (λ (v : SharedValue). Ported {N = g.row.N.Denot} v c.args.pipes.items (into_iter_items c.into_iter-end-iterator.result) (into_iter_items c.next.new.self) c.new-ports.result.items) (sym c.cluster.view_is)
    (ported_none {N = g.row.N.Denot} cluster c.args.pipes.items c.args.stores.now (into_iter_items c.into_iter-shares.result) (into_iter_items c.next.new.self) c.in-Some.share (into_iter_items c.into_iter-end-iterator.result) c.new-ports.result.items
    (c.into_iter-shares.ensures.rest ∙ c.in_ok-cluster.ensures.shares ∙ ap (λ n. map (new_share cluster) (map (actor_of cluster.driver) n)) c.in_ok-cluster.ensures.numbers)
    c.in-Some.ensures.cases.0 (c.into_iter-end-iterator.ensures.into_iter_gives.0 ∙ c.in_ok-givers.ensures.ends) c.requires.pipes c.new-ports.ensures.items)

pub loop-end-preserved : goal.loop-end-preserved
loop-end-preserved g c =
    let port : Port g.row.N.Denot = record { share = c.in-Some-next.share; stream = c.in-Some-end.end.stream; taker = c.in-Some-end.end.taker } in
    ported_more {N = g.row.N.Denot} _ c.args.pipes.items (into_iter_items c.loop-end.end-iterator) (into_iter_items c.next-in-loop-end.new.self) (into_iter_items c.loop-end.shares) (into_iter_items c.next-in-loop-end-2.new.self)
    c.loop-end.ports.items c.push.new.self.items c.in-Some-end.end c.in-Some-next.share port c.loop-end.invariant c.in-Some-end.ensures.steps.0 c.in-Some-next.ensures.cases.0 c.in_ok-push.ensures.items refl refl refl

pub returns-clause-ports : goal.returns-clause-ports
returns-clause-ports g c =
    let long : into_iter_len c.loop-end.end-iterator ≡ length (into_iter_items c.loop-end.end-iterator) = search rules in
    let none : into_iter_items c.loop-end.end-iterator ≡ [] = none_of (into_iter_items c.loop-end.end-iterator) (sym long ∙ c.in-None.ensures.steps.0) in
    subst (λ (v : SharedValue). AllZip (OpensPort {N = g.row.N.Denot} v) c.args.pipes.items c.loop-end.ports.items) c.cluster.view_is
    (ported_all {N = g.row.N.Denot} (shared_of c.cluster.inside.turn c.cluster.inside.driver) c.args.pipes.items (into_iter_items c.loop-end.shares) c.loop-end.ports.items
    (subst (λ ends. Ported {N = g.row.N.Denot} (shared_of c.cluster.inside.turn c.cluster.inside.driver) c.args.pipes.items ends (into_iter_items c.loop-end.shares) c.loop-end.ports.items) none c.loop-end.invariant))
