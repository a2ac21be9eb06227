use Rattle.std.proofs.Common.{◌≡◌, refl, false}
use Rattle.tso_run.specs.declared.caller.ClientWork.{ClientWork}
use Rattle.tso_run.specs.Runs.{client_answers}
use Rattle.tso_run.proofs.Moving.{moved_one, one_more}
use Rattle.tso_run.proofs.end.client_parts.Goals as goal

pub loop-work-preserved : goal.loop-work-preserved
loop-work-preserved g c =
    let rest = c.next.new.self.rest.items in
    let is = c.in-Some.ensures.steps.0 in (
      tt,
      tt,
      moved_one (λ (w : ClientWork g.row.N.Denot). w.pass) c.loop-work.work-iterator.rest.items rest c.in-Some.work c.loop-work.parts.passes.items _ _ c.in-Some.work.pass is c.in_ok-push.ensures.items refl c.loop-work.invariant.2,
      moved_one (λ (w : ClientWork g.row.N.Denot). w.slip) c.loop-work.work-iterator.rest.items rest c.in-Some.work c.loop-work.parts.slips.items _ _ c.in-Some.work.slip is c.in_ok-push-2.ensures.items refl c.loop-work.invariant.3,
      moved_one client_answers c.loop-work.work-iterator.rest.items rest c.in-Some.work c.loop-work.parts.answers.items _ _ (client_answers c.in-Some.work) is c.in_ok-push-3.ensures.items refl c.loop-work.invariant.4,
      λ all. c.loop-work.invariant.5 (one_more (λ (w : ClientWork g.row.N.Denot). w.failed ≡ false) c.loop-work.work-iterator.rest.items rest c.in-Some.work is c.if-work.false all),
    )
