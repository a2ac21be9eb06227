use Rattle.rule_fit.proofs.ConstraintLemmas.{one_fails, all_pass, value_behind, value_first}
use Rattle.rule_fit.proofs.laws.each_constraint_is_asked.Goals as goal

pub returns-clause-fails : goal.returns-clause-fails
returns-clause-fails c = one_fails

pub returns-clause-all : goal.returns-clause-all
returns-clause-all c = all_pass

pub returns-clause-first : goal.returns-clause-first
returns-clause-first c = value_first

pub returns-clause-behind : goal.returns-clause-behind
returns-clause-behind c = value_behind
