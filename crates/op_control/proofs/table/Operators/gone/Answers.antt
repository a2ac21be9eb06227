use Rattle.op_control.proofs.ChangeLemmas.{gone-lives}
use Rattle.op_control.proofs.table.Operators.gone.Goals as goal

pub returns-clause-life : goal.returns-clause-life
returns-clause-life c = rw c.remove.ensures.value (gone-lives c.args.self.now c.args.region)
