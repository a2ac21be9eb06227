use Rattle.op_control.proofs.NewLemmas.{new_at, others_at}
use Rattle.op_control.proofs.laws.an_added_operator_is_new.Goals as goal

pub returns-clause-region : goal.returns-clause-region
returns-clause-region c = new_at

pub returns-clause-others : goal.returns-clause-others
returns-clause-others c = others_at
