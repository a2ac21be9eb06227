use Rattle.std.proofs.Common.{◌≡◌, drop}
use Rattle.pd_state.specs.Replies.{by_answers}
use Rattle.pd_state.specs.declared.reply.Reply.{Reply}
use Rattle.pd_state.proofs.write.first_refusal.Given as goal

abbrev pub invariant-loop-answer : goal.invariant-loop-answer
invariant-loop-answer l = (done : Reply) → by_answers done l.answers ≡ by_answers done (drop l.answer-index l.answers)
