use Rattle.std.proofs.Common.{◌≡◌, [], IfOk, Some, Option, refl, sym, ap, subst, ◌∙◌}
use Rattle.meta_store.specs.Asked.{AreAsked}
use Rattle.pd_types.specs.declared.request.Request.{Request}
use Rattle.pd_types.specs.declared.request.Request.TheVariants as ask
use Rattle.pd_state.specs.Calls.{next_call}
use Rattle.pd_state.specs.Steps.{stepped}
use Rattle.pd_state.specs.declared.heard.Heard.{Heard}
use Rattle.pd_state.specs.declared.part.Part.{Part}
use Rattle.pd_state.proofs.Alone.{hears_alone, hears_ok}
use Rattle.pd_state.proofs.Removals.{absent_asked, absent_bench, absent_turns}
use Rattle.pd_state.proofs.Turns.{ctl_asks, ctl_hears, names_scheduled, schedule_asked, schedule_hears}
use Rattle.pd_state.proofs.serve.step.Goals as goal

pub returns-in-Term-clause-asked : goal.returns-in-Term-clause-asked
returns-in-Term-clause-asked g c =
    subst (λ (r : Request). IfOk c.begin.result (λ done. AreAsked (next_call c.args.part.now r done.heard.bench) [] done.heard.answers)) (sym c.in-Term.is) c.begin.ensures.asked

pub returns-in-Retire-clause-after : goal.returns-in-Retire-clause-after
returns-in-Retire-clause-after g c =
    c.retire.ensures.after c.quiet.result.heard ∙ ap (λ (r : Request). stepped c.args.part.now r c.quiet.result.reply c.quiet.result.heard) (sym c.in-Retire.is)

pub returns-in-Some-clause-asked : goal.returns-in-Some-clause-asked
returns-in-Some-clause-asked g c =
    let at : (let x : Option Part × Request = (c.args.part.now, c.args.request.now) in x) ≡ (Some c.in-Some.held, ask.Hello c.in-Hello.store c.in-Hello.moment c.in-Hello.address c.in-Hello.labels) = λ i. (c.in-Some.is i, c.in-Hello.is i) in
    subst (λ (x : Option Part × Request). IfOk c.hello.result (λ done. AreAsked (next_call x.0 x.1 done.heard.bench) [] done.heard.answers)) (sym at) c.hello.ensures.asked

pub returns-in-Some-part-2-clause-asked : goal.returns-in-Some-part-2-clause-asked
returns-in-Some-part-2-clause-asked g c =
    let at : (let x : Option Part × Request = (c.args.part.now, c.args.request.now) in x) ≡ (Some c.in-Some-part-2.held, ask.Rule c.in-Rule.moment c.in-Rule.json) = λ i. (c.in-Some-part-2.is i, c.in-Rule.is i) in
    subst (λ (x : Option Part × Request). IfOk c.rule.result (λ done. AreAsked (next_call x.0 x.1 done.heard.bench) [] done.heard.answers)) (sym at) c.rule.ensures.asked

pub returns-in-Some-part-3-clause-asked : goal.returns-in-Some-part-3-clause-asked
returns-in-Some-part-3-clause-asked g c =
    let at : (let x : Option Part × Request = (c.args.part.now, c.args.request.now) in x) ≡ (Some c.in-Some-part-3.held, ask.Unrule c.in-Unrule.moment c.in-Unrule.group c.in-Unrule.id) = λ i. (c.in-Some-part-3.is i, c.in-Unrule.is i) in
    subst (λ (x : Option Part × Request). IfOk c.unrule.result (λ done. AreAsked (next_call x.0 x.1 done.heard.bench) [] done.heard.answers)) (sym at) c.unrule.ensures.asked

pub returns-in-Some-part-5-clause-asked : goal.returns-in-Some-part-5-clause-asked
returns-in-Some-part-5-clause-asked g c =
    let at : (let x : Option Part × Request = (c.args.part.now, c.args.request.now) in x) ≡ (Some c.in-Some-part-5.held, ask.Check c.in-Check.moment c.in-Check.region) = λ i. (c.in-Some-part-5.is i, c.in-Check.is i) in
    subst (λ (x : Option Part × Request). IfOk c.check_region.result (λ done. AreAsked (next_call x.0 x.1 done.heard.bench) [] done.heard.answers)) (sym at) c.check_region.ensures.asked

pub returns-in-Some-part-6-clause-asked : goal.returns-in-Some-part-6-clause-asked
returns-in-Some-part-6-clause-asked g c =
    let at : (let x : Option Part × Request = (c.args.part.now, c.args.request.now) in x) ≡ (Some c.in-Some-part-6.held, ask.Patrol c.in-Patrol.moment c.in-Patrol.workers) = λ i. (c.in-Some-part-6.is i, c.in-Patrol.is i) in
    subst (λ (x : Option Part × Request). IfOk c.patrol.result (λ done. AreAsked (next_call x.0 x.1 done.heard.bench) [] done.heard.answers)) (sym at) c.patrol.ensures.asked

-- what is heard of the bench, by the requests that hear nothing of it

pub returns-in-Term-clause-bench : goal.returns-in-Term-clause-bench
returns-in-Term-clause-bench g c = hears_ok c.args.part.now c.args.request.now _ c.in-Term.is refl _ c.begin.result c.begin.ensures.alone

pub returns-in-Retire-clause-bench : goal.returns-in-Retire-clause-bench
returns-in-Retire-clause-bench g c = hears_alone c.args.part.now c.args.request.now _ c.in-Retire.is refl c.quiet.result.reply _ c.quiet.result.heard c.quiet.ensures.alone

pub returns-in-Some-clause-bench : goal.returns-in-Some-clause-bench
returns-in-Some-clause-bench g c = hears_ok c.args.part.now c.args.request.now _ c.in-Hello.is refl _ c.hello.result c.hello.ensures.alone

pub returns-in-None-clause-bench : goal.returns-in-None-clause-bench
returns-in-None-clause-bench g c = hears_alone c.args.part.now c.args.request.now _ c.in-Hello.is refl c.quiet-in-None.result.reply _ c.quiet-in-None.result.heard c.quiet-in-None.ensures.alone

pub returns-in-Some-part-clause-bench : goal.returns-in-Some-part-clause-bench
returns-in-Some-part-clause-bench g c = hears_alone c.args.part.now c.args.request.now _ c.in-Alive.is refl c.quiet-in-Some-part.result.reply _ c.quiet-in-Some-part.result.heard c.quiet-in-Some-part.ensures.alone

pub returns-in-None-part-clause-bench : goal.returns-in-None-part-clause-bench
returns-in-None-part-clause-bench g c = hears_alone c.args.part.now c.args.request.now _ c.in-Alive.is refl c.quiet-in-None-part.result.reply _ c.quiet-in-None-part.result.heard c.quiet-in-None-part.ensures.alone

pub returns-in-Some-part-2-clause-bench : goal.returns-in-Some-part-2-clause-bench
returns-in-Some-part-2-clause-bench g c = hears_ok c.args.part.now c.args.request.now _ c.in-Rule.is refl _ c.rule.result c.rule.ensures.alone

pub returns-in-None-part-2-clause-bench : goal.returns-in-None-part-2-clause-bench
returns-in-None-part-2-clause-bench g c = hears_alone c.args.part.now c.args.request.now _ c.in-Rule.is refl c.quiet-in-None-part-2.result.reply _ c.quiet-in-None-part-2.result.heard c.quiet-in-None-part-2.ensures.alone

pub returns-in-Some-part-3-clause-bench : goal.returns-in-Some-part-3-clause-bench
returns-in-Some-part-3-clause-bench g c = hears_ok c.args.part.now c.args.request.now _ c.in-Unrule.is refl _ c.unrule.result c.unrule.ensures.alone

pub returns-in-None-part-3-clause-bench : goal.returns-in-None-part-3-clause-bench
returns-in-None-part-3-clause-bench g c = hears_alone c.args.part.now c.args.request.now _ c.in-Unrule.is refl c.quiet-in-None-part-3.result.reply _ c.quiet-in-None-part-3.result.heard c.quiet-in-None-part-3.ensures.alone

pub returns-in-Some-part-4-clause-bench : goal.returns-in-Some-part-4-clause-bench
returns-in-Some-part-4-clause-bench g c = hears_ok c.args.part.now c.args.request.now _ c.in-Beat.is refl _ c.beat.result c.beat.ensures.alone

pub returns-in-None-part-4-clause-bench : goal.returns-in-None-part-4-clause-bench
returns-in-None-part-4-clause-bench g c = hears_alone c.args.part.now c.args.request.now _ c.in-Beat.is refl c.quiet-in-None-part-4.result.reply _ c.quiet-in-None-part-4.result.heard c.quiet-in-None-part-4.ensures.alone

pub returns-in-Some-part-5-clause-bench : goal.returns-in-Some-part-5-clause-bench
returns-in-Some-part-5-clause-bench g c = hears_ok c.args.part.now c.args.request.now _ c.in-Check.is refl _ c.check_region.result c.check_region.ensures.alone

pub returns-in-None-part-5-clause-bench : goal.returns-in-None-part-5-clause-bench
returns-in-None-part-5-clause-bench g c = hears_alone c.args.part.now c.args.request.now _ c.in-Check.is refl c.quiet-in-None-part-5.result.reply _ c.quiet-in-None-part-5.result.heard c.quiet-in-None-part-5.ensures.alone

pub returns-in-Some-part-6-clause-bench : goal.returns-in-Some-part-6-clause-bench
returns-in-Some-part-6-clause-bench g c = hears_ok c.args.part.now c.args.request.now _ c.in-Patrol.is refl _ c.patrol.result c.patrol.ensures.alone

pub returns-in-None-part-6-clause-bench : goal.returns-in-None-part-6-clause-bench
returns-in-None-part-6-clause-bench g c = hears_alone c.args.part.now c.args.request.now _ c.in-Patrol.is refl c.quiet-in-None-part-6.result.reply _ c.quiet-in-None-part-6.result.heard c.quiet-in-None-part-6.ensures.alone

-- and by a turn and a command

pub returns-in-Some-part-7-clause-asked : goal.returns-in-Some-part-7-clause-asked
returns-in-Some-part-7-clause-asked g c = schedule_asked c.args.part.now c.in-Some-part-7.held c.args.request.now c.in-Schedule.moment c.schedule.result c.in-Some-part-7.is c.in-Schedule.is c.schedule.ensures.asked

pub returns-in-Some-part-7-clause-bench : goal.returns-in-Some-part-7-clause-bench
returns-in-Some-part-7-clause-bench g c =
    schedule_hears c.args.part.now c.in-Some-part-7.held c.args.request.now c.in-Schedule.moment c.schedule.result c.in-Some-part-7.is c.in-Schedule.is _ _ c.schedule.ensures.turns c.schedule.ensures.names c.schedule.ensures.becomes

pub returns-in_ok-names-in-None-part-7-clause-asked : goal.returns-in_ok-names-in-None-part-7-clause-asked
returns-in_ok-names-in-None-part-7-clause-asked g c = absent_asked c.args.part.now c.args.request.now (ask.Schedule c.in-Schedule.moment) c.with_names.result.heard _ c.in-None-part-7.is c.in-Schedule.is c.with_names.ensures.heard refl

pub returns-in_ok-names-in-None-part-7-clause-bench : goal.returns-in_ok-names-in-None-part-7-clause-bench
returns-in_ok-names-in-None-part-7-clause-bench g c = record {
  turns = absent_turns c.args.part.now c.args.request.now (ask.Schedule c.in-Schedule.moment) c.with_names.result.heard _ c.in-None-part-7.is c.in-Schedule.is c.with_names.ensures.heard;
  names = names_scheduled c.args.request.now c.in-Schedule.moment _ c.with_names.result.heard.names c.in-Schedule.is (ap (λ (h : Heard). h.names) c.with_names.ensures.heard ∙ c.in_ok-names-in-None-part-7.ensures.value);
  becomes = absent_bench c.args.part.now c.args.request.now (ask.Schedule c.in-Schedule.moment) c.with_names.result.heard _ c.in-None-part-7.is c.in-Schedule.is c.with_names.ensures.heard c.with_names.result.reply _;
}

pub returns-in-Ctl-clause-asked : goal.returns-in-Ctl-clause-asked
returns-in-Ctl-clause-asked g c = ctl_asks c.args.part.now c.args.request.now c.in-Ctl.moment c.in-Ctl.words c.ctl.result c.in-Ctl.is c.ctl.ensures.asked

pub returns-in-Ctl-clause-bench : goal.returns-in-Ctl-clause-bench
returns-in-Ctl-clause-bench g c = ctl_hears c.args.part.now c.args.request.now c.in-Ctl.moment c.in-Ctl.words c.ctl.result c.in-Ctl.is _ _ c.ctl.ensures.silent c.ctl.ensures.names c.ctl.ensures.becomes
