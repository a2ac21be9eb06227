use Rattle.std.specs.Prelude.{string_bytes}
use Rattle.pd_cluster.specs.Answers.{opening_cell}
use Rattle.pd_cluster.specs.Replay.{State}
use Rattle.std.proofs.Common.{◌≡◌, map, ◌+◌, List, ap, sym, subst, ◌∙◌}
use Rattle.std.proofs.lemmas.List.Elements.{All-head, All-rest, All-same}
use Rattle.std.specs.Vec.Iter.{into_iter_items}
use Rattle.tso_model.specs.declared.view.Setup.{Setup}
use Rattle.tso_model.specs.Sound.{IsSetup}
use Rattle.pd_script.specs.Lawful.{IsLawful, actor_in}
use Rattle.pd_script.specs.declared.act.Line.{Line}
use Rattle.pd_script.specs.declared.script.Mode.TheVariants.{Replay}
use Rattle.sched_api.specs.Benches.{Seats}
use Rattle.pd_cluster.specs.Clusters.{state_of}
use Rattle.pd_cluster.specs.Talks.{talks_of}
use Rattle.pd_cluster.proofs.Histories.{all_asked, is_setup}
use Rattle.pd_cluster.proofs.Reaching.{IsReached, begins_so, ends_heeded, ends_text, first_of, goes_so}
use Rattle.pd_cluster.proofs.Serving.{is_start}
use Rattle.pd_cluster.proofs.replay.replay_script.Goals as goal

pub new-requires : goal.new-requires
new-requires g c = record {
  setup = subst (λ (ls : List Line). IsSetup (record { drivers = c.args.script.drivers; clients = c.args.script.clients; cell = opening_cell ls })) (sym c.as_slice.ensures.value) (is_setup Replay c.args.script c.requires.lawful);
}

pub loop-line-init : goal.loop-line-init
loop-line-init g c =
    let old : List Seats = map g.B.Seated.seats c.args.benches.now.items in
    let items : into_iter_items c.into_iter-line-iterator.result ≡ c.args.script.lines = c.into_iter-line-iterator.ensures.into_iter_gives.0 ∙ c.into_vec-line-items.ensures.value in
    let began : (ends : List Seats) → state_of c.in_ok-replay.replay old ends ≡ first_of old ends c.args.script =
    λ ends. is_start (talks_of (c.args.script.drivers + 1) old ends) c.args.script (state_of c.in_ok-replay.replay old ends) c.as_slice.result.now (c.in_ok-replay.ensures.value old ends) c.as_slice.ensures.value in
    record {
      reached = begins_so old c.args.script c.in_ok-replay.replay (into_iter_items c.into_iter-line-iterator.result) (string_bytes c.new-text.result) items c.new-text.ensures.bytes began;
      setup = ap (λ (s : State). s.oracle.setup) (began old);
      ready = c.in_ok-replay.ensures.ready;
      lawful = All-same (λ (line : Line). IsLawful c.args.script.drivers c.args.script.clients line.act) _ _ items (all_asked Replay c.args.script c.requires.lawful);
      actors = All-same (λ (line : Line). line.actor ≡ actor_in line.act) _ _ items c.requires.lawful.actors;
    }

pub append-requires-clause-lawful : goal.append-requires-clause-lawful
append-requires-clause-lawful g c = subst (λ (k : Setup). IsLawful k.drivers k.clients c.in-Some.line.act) (sym c.loop-line.invariant.setup)
    (All-head (λ (line : Line). IsLawful c.args.script.drivers c.args.script.clients line.act) c.in-Some.line (into_iter_items c.next.new.self)
    (All-same (λ (line : Line). IsLawful c.args.script.drivers c.args.script.clients line.act) _ _ (sym c.in-Some.ensures.steps.0) c.loop-line.invariant.lawful))

pub append-requires-clause-actor : goal.append-requires-clause-actor
append-requires-clause-actor g c =
    All-head (λ (line : Line). line.actor ≡ actor_in line.act) c.in-Some.line (into_iter_items c.next.new.self)
    (All-same (λ (line : Line). line.actor ≡ actor_in line.act) _ _ (sym c.in-Some.ensures.steps.0) c.loop-line.invariant.actors)

pub loop-line-preserved : goal.loop-line-preserved
loop-line-preserved g c = record {
  reached = goes_so (map g.B.Seated.seats c.args.benches.now.items) (map g.B.Seated.seats c.loop-line.benches.items) (map g.B.Seated.seats c.append.new.benches.items) c.args.script c.loop-line.replay c.append.new.replay c.in-Some.line (into_iter_items c.next.new.self) (string_bytes c.loop-line.text) (string_bytes c.append.new.text)
      (subst (λ (ls : List Line). IsReached (map g.B.Seated.seats c.args.benches.now.items) (map g.B.Seated.seats c.loop-line.benches.items) c.args.script c.loop-line.replay ls (string_bytes c.loop-line.text)) c.in-Some.ensures.steps.0 c.loop-line.invariant.reached)
      c.in_ok-append.ensures.benches c.in_ok-append.ensures.text c.in_ok-append.ensures.after c.in_ok-append.ensures.turns;
  setup = c.append.ensures.setup ∙ c.loop-line.invariant.setup;
  ready = c.in_ok-append.ensures.ready;
  lawful = All-rest (λ (line : Line). IsLawful c.args.script.drivers c.args.script.clients line.act) _ _ _ c.in-Some.ensures.steps.0 c.loop-line.invariant.lawful;
  actors = All-rest (λ (line : Line). line.actor ≡ actor_in line.act) _ _ _ c.in-Some.ensures.steps.0 c.loop-line.invariant.actors;
}

pub returns-clause-text : goal.returns-clause-text
returns-clause-text g c = ends_text (map g.B.Seated.seats c.args.benches.now.items) (map g.B.Seated.seats c.loop-line.benches.items) c.args.script c.loop-line.replay (into_iter_items c.loop-line.line-iterator) (string_bytes c.loop-line.text) (sym c.loop-line.line-iterator.rest.ok.0 ∙ c.in-None.ensures.steps.0) c.loop-line.invariant.reached

pub returns-clause-heeded : goal.returns-clause-heeded
returns-clause-heeded g c = ends_heeded (map g.B.Seated.seats c.args.benches.now.items) (map g.B.Seated.seats c.loop-line.benches.items) c.args.script c.loop-line.replay (into_iter_items c.loop-line.line-iterator) (string_bytes c.loop-line.text) (sym c.loop-line.line-iterator.rest.ok.0 ∙ c.in-None.ensures.steps.0) c.requires.lawful c.loop-line.invariant.reached
