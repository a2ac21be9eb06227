use Rattle.std.proofs.Common.{sym, ap, ◌∙◌, Result, Ok, Err, IfOk}
use Rattle.std.specs.Prelude.{OnOk}
use Rattle.pd_types.specs.declared.memory.NoMemory.{NoMemory}
use Rattle.pd_types.specs.declared.region.RegionBeat.{RegionBeat}
use Rattle.heartbeat.specs.Intakes.{intake_of, left_by}
use Rattle.pd_state.specs.declared.heard.Done.{Done}
use Rattle.pd_state.proofs.Accepting.{accepts, accepts_after}
use Rattle.pd_state.proofs.serve.beat.Goals as goal

on_ok : (r : Result Done NoMemory) (O : Type 0) (P Q : Done → Type 0) → ((done : Done) → O → P done → Q done) → OnOk r O → IfOk r P → IfOk r Q
on_ok (Ok done) O P Q f o p = f done o p
on_ok (Err e) O P Q f o p = tt

pub returns-in-Accepted-clause-reply : goal.returns-in-Accepted-clause-reply
returns-in-Accepted-clause-reply c =
    let now = c.advance.new.self in
    let is = sym c.in-Accepted.is ∙ c.in_ok-fault.ensures.value ∙ ap (λ (b : RegionBeat). intake_of b now.standing) c.in_ok-copy.ensures in
    on_ok c.accept.result _ _ _ (λ done operators said. accepts c.args.part.now now c.args.moment c.args.beat.now c.in-Accepted.removed c.advance.ensures.value is done.reply said) c.accept.ensures.operators c.accept.ensures.reply

pub returns-in-Accepted-clause-after : goal.returns-in-Accepted-clause-after
returns-in-Accepted-clause-after c =
    let now = c.advance.new.self in
    let is = sym c.in-Accepted.is ∙ c.in_ok-fault.ensures.value ∙ ap (λ (b : RegionBeat). intake_of b now.standing) c.in_ok-copy.ensures in
    let left = c.in_ok-fault.ensures.left ∙ (λ j. left_by (c.in-Accepted.is j) (c.in_ok-copy.ensures j) now.standing) in
    on_ok c.accept.result _ _ _
    (λ done operators said. accepts_after c.args.part.now now c.args.moment c.args.beat.now c.in-Accepted.removed c.advance.ensures.value is c.args.store c.accept.new.part done.reply c.intake.new.self left
    (c.accept.ensures.after ∙ (λ j. record now { standing = c.intake.new.self; operators = operators j })) said)
    c.accept.ensures.operators c.accept.ensures.reply
