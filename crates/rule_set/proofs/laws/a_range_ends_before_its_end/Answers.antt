use Rattle.rule_set.proofs.Words.{has_start, none_before, not_its_end, no_end}
use Rattle.rule_set.proofs.laws.a_range_ends_before_its_end.Goals as goal

pub returns-clause-start : goal.returns-clause-start
returns-clause-start c = has_start

pub returns-clause-before : goal.returns-clause-before
returns-clause-before c = none_before

pub returns-clause-end : goal.returns-clause-end
returns-clause-end c = not_its_end

pub returns-clause-endless : goal.returns-clause-endless
returns-clause-endless c = no_end
