use Rattle.std.proofs.Common.{◌<◌, map, None, List, length, refl, ap, ◌∙◌, arith}
use Rattle.std.specs.Prelude.{get_or}
use Rattle.sched_api.specs.Benches.{Seats}
use Rattle.tso_core.specs.declared.reply.Reply.{Reply}
use Rattle.pd_cluster.specs.Clusters.{kept_of, state_of}
use Rattle.pd_cluster.specs.declared.said.Said.TheVariants.{ByOracle}
use Rattle.pd_cluster.proofs.Histories.{actor_low}
use Rattle.pd_cluster.proofs.Serving.{any_default, line_is}
use Rattle.pd_cluster.proofs.replay.Replay.oracle_line.Goals as goal

pub serve_besides-requires-clause-within : goal.serve_besides-requires-clause-within
serve_besides-requires-clause-within g c = omega (arith, c.driver_in-driver.ensures.value, actor_low _ _ _ _ c.requires.actor c.requires.lawful, c.requires.ready.clusters)

pub index_mut-requires : goal.index_mut-requires
index_mut-requires g c = omega (arith, c.driver_in-driver.ensures.value, actor_low _ _ _ _ c.requires.actor c.requires.lawful, c.requires.ready.leads, c.args.self.now.leads.ok)

pub returns-clause-said : goal.returns-clause-said
returns-clause-said g c = λ ends goes. ap (λ (r : Reply). ByOracle r) c.in_ok-reply.ensures.reply

pub returns-clause-after : goal.returns-clause-after
returns-clause-after g c = λ ends goes.
    let old : List Seats = map g.B.Seated.seats c.args.benches.now.items in
    let new : List Seats = map g.B.Seated.seats c.serve_besides.new.benches.items in
    let within : c.driver_in-driver.result < length c.args.self.now.leads.items = omega (arith, c.driver_in-driver.ensures.value, actor_low _ _ _ _ c.requires.actor c.requires.lawful, c.requires.ready.leads) in
    line_is (state_of c.args.self.now old ends) c.args.line.now c.in_ok-reply.reply c.driver_in-driver.result c.index-lead.result.now c.lead_after.result c.asked_besides-request.result
    c.step.new.core _ (kept_of c.serve_besides.new.clusters.items c.serve_besides.new.meta new ends) c.driver_in-driver.ensures.value
    (c.index-lead.ensures ∙ any_default c.args.self.now.leads.items c.driver_in-driver.result _ None within ∙ ap (λ n. get_or c.args.self.now.leads.items n None) c.driver_in-driver.ensures.value)
    c.in_ok-reply.ensures.reply c.asked_besides-request.ensures.value c.lead_after.ensures.value c.in_ok-reply.ensures.after refl (c.in_ok-serve_besides.ensures.after ends goes)
