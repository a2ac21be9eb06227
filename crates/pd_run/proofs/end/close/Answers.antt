use Rattle.std.proofs.Common.{rules, ◌≡◌, ◌∙◌, ℕ, [], All, length, map, refl, sym, subst}
use Rattle.std.specs.Prelude.{Contains}
use Rattle.std.proofs.lemmas.List.Elements.{All-nil, All-rest}
use Rattle.std.specs.Vec.Iter.{into_iter_items, into_iter_len}
use Rattle.step_stream.specs.Streams.{TakerValue}
use Rattle.pd_turn.specs.Turns.{AreApart}
use Rattle.pd_shared.specs.Names.{stream_name}
use Rattle.pd_shared.specs.Outlets.{AreOutletsOf, OutletValue}
use Rattle.pd_run.specs.Ends.{HasOutlet, IsSettled}
use Rattle.pd_run.proofs.Lists.{first_is, none_of}
use Rattle.pd_run.proofs.Settling.{has_outlet, settled_all, settled_more}
use Rattle.pd_run.proofs.end.close.Goals as goal

pub settle-requires-clause-apart : goal.settle-requires-clause-apart
settle-requires-clause-apart g c = subst (λ os. AreApart (map (λ (o : OutletValue). o.store) os)) (sym c.loop-store.invariant.same) c.in_ok-closed.ensures.kept.outlets_are.apart

pub settle-requires-clause-there : goal.settle-requires-clause-there
settle-requires-clause-there g c =
    let left = into_iter_items c.loop-store.store-iterator in
    let end : ℕ × TakerValue = (c.in-Some.store, c.in-Some.taker) in
    let held = first_is (λ (e : ℕ × TakerValue). Contains g.N.ClusterName.streams (stream_name c.args.cluster.driver e.0 e.1.stream)) end left (into_iter_items c.next.new.self) c.in-Some.ensures.steps.0 c.loop-store.invariant.named in
    let outlets : AreOutletsOf g.N.ClusterName.streams c.args.cluster.driver c.in_ok-closed.closed.givers.items = subst (λ d. AreOutletsOf g.N.ClusterName.streams d c.in_ok-closed.closed.givers.items) c.in_ok-closed.ensures.driver c.in_ok-closed.ensures.kept.outlets_are in
    subst (λ os. HasOutlet os c.in-Some.store c.in-Some.taker.stream) (sym c.loop-store.invariant.same) (has_outlet g.N.ClusterName.streams c.args.cluster.driver c.in_ok-closed.closed.givers.items c.in-Some.store c.in-Some.taker.stream outlets held)

pub loop-store-init : goal.loop-store-init
loop-store-init g c = record {
  same = refl;
  named = subst (All (λ (e : ℕ × TakerValue). Contains g.N.ClusterName.streams (stream_name c.args.cluster.driver e.0 e.1.stream))) (sym c.into_iter-store-iterator.ensures.into_iter_gives.0) c.requires.named;
  settled = ([], refl, All-nil (IsSettled c.in_ok-closed.closed.givers.items));
}

pub loop-store-preserved : goal.loop-store-preserved
loop-store-preserved g c =
    let end : ℕ × TakerValue = (c.in-Some.store, c.in-Some.taker) in record {
      same = c.settle.ensures.same ∙ c.loop-store.invariant.same;
      named = All-rest (λ (e : ℕ × TakerValue). Contains g.N.ClusterName.streams (stream_name c.args.cluster.driver e.0 e.1.stream)) _ _ _ c.in-Some.ensures.steps.0 c.loop-store.invariant.named;
      settled = settled_more c.in_ok-closed.closed.givers.items (into_iter_items c.into_iter-store-iterator.result) (into_iter_items c.loop-store.store-iterator) (into_iter_items c.next.new.self) end c.loop-store.invariant.settled c.in-Some.ensures.steps.0
          (subst (λ os. IsSettled os end) c.loop-store.invariant.same c.settle.ensures.settled);
    }

pub returns : goal.returns
returns g c =
    let left = into_iter_items c.loop-store.store-iterator in
    let long : into_iter_len c.loop-store.store-iterator ≡ length left = search rules in
    record {
      closing = record {
        outlets = c.in_ok-closed.closed.givers.items;
        driver = c.in_ok-closed.ensures.driver;
        alive = c.in_ok-closed.ensures.alive;
        kept = c.in_ok-closed.ensures.kept;
        lists = c.in_ok-closed.ensures.lists;
        callers = c.in_ok-closed.ensures.callers;
        settled = subst (All (IsSettled c.in_ok-closed.closed.givers.items)) c.into_iter-store-iterator.ensures.into_iter_gives.0
            (settled_all c.in_ok-closed.closed.givers.items (into_iter_items c.into_iter-store-iterator.result) left c.loop-store.invariant.settled (none_of left (sym long ∙ c.in-None.ensures.steps.0)));
      };
    }
