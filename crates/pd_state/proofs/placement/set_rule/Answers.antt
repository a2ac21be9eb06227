use Rattle.std.proofs.Common.{◌≡◌, ◌∙◌, List, ap, sym}
use Rattle.std.specs.Prelude.{Ok}
use Rattle.meta_store.specs.declared.record.MetaAnswer.{MetaAnswer}
use Rattle.pd_state.specs.declared.reply.Reply.{Reply}
use Rattle.pd_state.specs.declared.reply.Reply.TheVariants as replies
use Rattle.pd_state.specs.Heard.{known_after}
use Rattle.pd_state.specs.State.{set_by}
use Rattle.pd_state.proofs.Refusals.{no_rule}
use Rattle.pd_state.proofs.placement.set_rule.Goals as goal

pub returns-in-Some-clause-after : goal.returns-in-Some-clause-after
returns-in-Some-clause-after g c =
    let part = c.args.part.now in
    let same = c.with_answers.ensures.reply ∙ sym (c.in-Some.ensures.value replies.Absent) in
    let rules : part.rules ≡ set_by c.with_answers.result.reply (Ok c.args.rule) part.rules =
    sym (ap (λ (p : Reply). set_by p (Ok c.args.rule) part.rules) same ∙ no_rule c.as_slice.result.now (Ok c.args.rule) part.rules) in
    let known : c.ask_behind.new.known ≡ known_after c.with_answers.result.heard.answers part.known =
    c.in_ok-answers.ensures.known ∙ ap (λ (l : List MetaAnswer). known_after l part.known) (sym c.with_answers.ensures.heard) in
    λ i. record part { rules = rules i; known = known i }
