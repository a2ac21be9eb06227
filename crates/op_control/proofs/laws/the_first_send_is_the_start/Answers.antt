use Rattle.op_control.proofs.StartLemmas.{begins, keeps_its_start}
use Rattle.op_control.proofs.laws.the_first_send_is_the_start.Goals as goal

pub returns-clause-begins : goal.returns-clause-begins
returns-clause-begins c = begins

pub returns-clause-keeps : goal.returns-clause-keeps
returns-clause-keeps c = keeps_its_start
