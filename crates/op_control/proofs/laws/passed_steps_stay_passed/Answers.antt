use Rattle.op_control.proofs.NewLemmas.{passes_more, stands_at}
use Rattle.op_control.proofs.laws.passed_steps_stay_passed.Goals as goal

pub returns-clause-more : goal.returns-clause-more
returns-clause-more c = passes_more

pub returns-clause-next : goal.returns-clause-next
returns-clause-next c = stands_at
