use Rattle.rule_fit.proofs.ConstraintLemmas.{score_none}
use Rattle.rule_fit.proofs.laws.the_first_label_weighs_most.Goals as goal

pub returns-clause-none : goal.returns-clause-none
returns-clause-none c = score_none
