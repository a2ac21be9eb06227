use Rattle.std.proofs.Common.{refl}
use Rattle.meta_store.proofs.Verdicts.{refusal_said}
use Rattle.meta_store.proofs.laws.each_call_is_said_with_its_answer.Goals as goal

pub returns : goal.returns
returns c = record { lead = λ past driver term revision. refl; put = λ past driver term expected revision key bytes. refl; deleted = λ past driver term expected revision key. refl; refused = refusal_said }
