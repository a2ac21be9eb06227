use Rattle.op_control.proofs.RefusalLemmas.{few_stay}
use Rattle.op_control.proofs.laws.at_most_1024_regions_have_an_operator.Goals as goal

pub returns : goal.returns
returns c = few_stay
