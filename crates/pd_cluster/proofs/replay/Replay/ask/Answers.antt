use Rattle.std.proofs.Common.{◌≡◌, map, ◌∙◌, ◌<◌, ◌+◌, Bool, cond, List, ap, length, length-set, refl, sym, arith}
use Rattle.std.specs.FinMap as map
use Rattle.std.specs.Prelude.{◌&&◌, is_some, not}
use Rattle.std.proofs.lemmas.List.{length-map}
use Rattle.sched_api.specs.Benches.{Seats}
use Rattle.tso_core.specs.Rows.{resigned_of}
use Rattle.tso_model.specs.declared.view.Setup.{Setup}
use Rattle.pd_state.specs.Clusters.{ClusterValue}
use Rattle.pd_state.specs.State.{part_after}
use Rattle.pd_state.specs.declared.reply.Reply.{Reply}
use Rattle.pd_cluster.specs.Clusters.{journals_of, kept_of, past_of, state_of}
use Rattle.pd_cluster.specs.Replay.{Kept, past_at}
use Rattle.pd_cluster.specs.Streams.{last_sends, with_messages}
use Rattle.pd_cluster.specs.declared.said.Said.TheVariants.{ByCluster}
use Rattle.pd_cluster.proofs.Serving.{any_default, asked_is, gave_up_is}
use Rattle.pd_cluster.proofs.replay.Replay.ask.Goals as goal

pub resign_if-requires : goal.resign_if-requires
resign_if-requires g c = record { driver = record { pos = c.requires.first; low = c.requires.within } }

pub returns-clause-said : goal.returns-clause-said
returns-clause-said g c = λ ends goes. ap (λ (r : Reply). ByCluster r) (c.in_ok-reply.ensures.reply ends goes)

pub returns-clause-after : goal.returns-clause-after
returns-clause-after g c = λ ends goes.
    let old : List Seats = map g.B.Seated.seats c.args.benches.now.items in
    let new : List Seats = map g.B.Seated.seats c.serve_with.new.benches.items in
    let journals = length-map c.args.self.now.clusters.items past_of in
    let low : c.args.driver < length (journals_of c.args.self.now.clusters.items) = omega (arith, journals, c.requires.ready.clusters, c.requires.within) in
    let within : c.args.driver < length c.args.self.now.streams.items = omega (arith, c.requires.ready.streams, c.requires.within) in
    let kept : Kept = kept_of c.args.self.now.clusters.items c.args.self.now.meta old ends in
    asked_is (state_of c.args.self.now old ends) c.args.number c.args.driver c.args.request c.serve_with.new.clusters.items (kept_of c.serve_with.new.clusters.items c.serve_with.new.meta new ends) c.index.result.now c.resign_if.new.core c.index_mut.result.now c.deliver.new.streams _
    (omega (arith, c.serve_with.ensures.len, c.requires.ready.clusters, c.requires.within)) low
    (c.in_ok-resign_if.ensures.after ∙ ap (λ (t : Bool). cond t (resigned_of c.args.self.now.core c.args.driver).after c.args.self.now.core)
    (c.gave_up-gone.ensures.value ∙ ap (λ (t : Bool). t && not (is_some (part_after (past_at (journals_of c.serve_with.new.clusters.items) c.args.driver)))) c.is_commanded-commanded.ensures.value
    ∙ gave_up_is kept (journals_of c.serve_with.new.clusters.items) c.args.driver c.args.number c.args.request low (ap (λ (k : Kept). k.journals) (c.in_ok-reply.ensures.after ends goes))))
    refl (c.in_ok-reply.ensures.after ends goes)
    (c.index_mut.ensures.value ∙ any_default c.args.self.now.streams.items c.args.driver _ map.empty within)
    (c.in_ok-deliver.ensures.ok ∙ ap (λ (v : ClusterValue). with_messages c.index_mut.result.now (last_sends (past_of v))) c.index.ensures) refl

pub returns-clause-ready : goal.returns-clause-ready
returns-clause-ready g c =
    let same : c.args.self.now.core.setup.drivers + 1 ≡ c.resign_if.new.core.setup.drivers + 1 = ap (λ (k : Setup). k.drivers + 1) (sym c.resign_if.ensures.setup) in
    record {
      leads = c.requires.ready.leads ∙ same;
      clusters = c.serve_with.ensures.len ∙ c.requires.ready.clusters ∙ same;
      streams = length-set c.args.self.now.streams.items c.args.driver c.deliver.new.streams ∙ c.requires.ready.streams ∙ same;
      alive = c.in_ok-reply.ensures.alive;
      numbered = c.in_ok-reply.ensures.numbered;
    }
