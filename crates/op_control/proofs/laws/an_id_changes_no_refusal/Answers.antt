use Rattle.op_control.proofs.IdLemmas.{same_refusal}
use Rattle.op_control.proofs.laws.an_id_changes_no_refusal.Goals as goal

pub returns : goal.returns
returns c = same_refusal
