use Rattle.std.proofs.Common.{refl}
use Rattle.pd_state.specs.declared.reply.Reply.TheVariants as replies
use Rattle.pd_state.proofs.Moments.{resigned, retired, term_begins, term_begun, term_refused}
use Rattle.pd_state.proofs.laws.a_term_begins_anew.Goals as goal

pub returns : goal.returns
returns c = record {
  begins = term_begins;
  begun = term_begun;
  outdated = λ past entry term moment fence. term_refused past entry term moment (replies.OldTerm fence) refl;
  full = λ past entry term moment. term_refused past entry term moment replies.MetaLimit refl;
  ends = retired;
  resigned = resigned;
}
