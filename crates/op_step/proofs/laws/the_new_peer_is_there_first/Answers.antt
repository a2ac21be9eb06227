use Rattle.op_step.proofs.CarriedLemmas.{comes_first}
use Rattle.op_step.proofs.laws.the_new_peer_is_there_first.Goals as goal

pub returns : goal.returns
returns c = comes_first
