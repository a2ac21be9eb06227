use Rattle.rule_set.proofs.Words.{by_group, by_index, by_id}
use Rattle.rule_set.proofs.laws.group_then_index_then_id.Goals as goal

pub returns-clause-group : goal.returns-clause-group
returns-clause-group c = by_group

pub returns-clause-index : goal.returns-clause-index
returns-clause-index c = by_index

pub returns-clause-id : goal.returns-clause-id
returns-clause-id c = by_id
