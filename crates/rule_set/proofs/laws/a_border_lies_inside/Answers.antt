use Rattle.rule_set.proofs.Words.{border_not_start, border_not_end, border_not_empty}
use Rattle.rule_set.proofs.laws.a_border_lies_inside.Goals as goal

pub returns-clause-start : goal.returns-clause-start
returns-clause-start c = λ rules region key is. border_not_start region key is.inside

pub returns-clause-end : goal.returns-clause-end
returns-clause-end c = λ rules region key is. border_not_end region key is.inside

pub returns-clause-some : goal.returns-clause-some
returns-clause-some c = λ rules region key is. border_not_empty region key is.inside
