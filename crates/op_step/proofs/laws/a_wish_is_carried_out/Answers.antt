use Rattle.op_step.proofs.CarriedLemmas.{adds, transfers, removes, moves}
use Rattle.op_step.proofs.laws.a_wish_is_carried_out.Goals as goal

pub returns-clause-adds : goal.returns-clause-adds
returns-clause-adds c = adds

pub returns-clause-leads : goal.returns-clause-leads
returns-clause-leads c = transfers

pub returns-clause-leaves : goal.returns-clause-leaves
returns-clause-leaves c = removes

pub returns-clause-moves : goal.returns-clause-moves
returns-clause-moves c = moves
