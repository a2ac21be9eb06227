use Rattle.rule_text.proofs.TestLemmas.{empty_range}
use Rattle.rule_text.proofs.laws.the_tests_stand_in_order.Goals as goal

pub returns-clause-range : goal.returns-clause-range
returns-clause-range c = empty_range
