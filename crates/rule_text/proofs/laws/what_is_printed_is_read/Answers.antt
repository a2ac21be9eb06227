use Rattle.rule_text.proofs.LawLemmas.{one_rule, only_memory}
use Rattle.rule_text.proofs.laws.what_is_printed_is_read.Goals as goal

pub returns-clause-one : goal.returns-clause-one
returns-clause-one c = one_rule

pub returns-clause-refused : goal.returns-clause-refused
returns-clause-refused c = only_memory
