use Rattle.std.proofs.Common.{◌≡◌, ◌∷◌, [], IfOk, Result, Ok, Err}
use Rattle.pd_types.specs.declared.memory.NoMemory.{NoMemory}
use Rattle.meta_store.specs.declared.record.MetaAnswer.{MetaAnswer}
use Rattle.pd_state.specs.declared.heard.Done.{Done}
use Rattle.pd_state.specs.declared.reply.Reply.{Reply}
use Rattle.pd_state.proofs.Refines.{welcomed}
use Rattle.pd_state.proofs.serve.hello.Goals as goal

both : (r : Result Done NoMemory) (reply : Reply) (answer : MetaAnswer) (R : Done → Type 0) → ((done : Done) → done.reply ≡ reply → done.heard.answers ≡ answer ∷ [] → R done)
    → IfOk r (λ done. done.reply ≡ reply) → IfOk r (λ done. done.heard.answers ≡ answer ∷ []) → IfOk r R
both (Ok done) reply answer R f one two = f done one two
both (Err e) reply answer R f one two = tt

pub returns-clause-after : goal.returns-clause-after
returns-clause-after g c = both c.with_answer-2.result _ _ _
    (λ done one two. welcomed c.args.part.now c.advance.new.self _ c.args.store c.args.moment c.args.address.now c.args.labels.now c.in_ok-rec.rec c.in_ok-answer.answer done.reply done.heard c.advance.ensures.value
    c.in_ok-rec.ensures.value one two
    (λ i. record c.advance.new.self { stores = c.in_ok-greet.ensures.ok i; known = c.in_ok-answer.ensures.known i; limits = c.in_ok-know.ensures.ok i }))
    c.with_answer-2.ensures.reply c.with_answer-2.ensures.heard
