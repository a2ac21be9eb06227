use Rattle.rule_checker.proofs.RepairLemmas.{few_repairs}
use Rattle.rule_checker.proofs.laws.plans_come_to_an_end.Goals as goal

pub returns : goal.returns
returns c = few_repairs
