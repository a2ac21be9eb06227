use Rattle.std.proofs.Common.{rules}
use Rattle.rule_set.proofs.Words.{less_than_none}
use Rattle.rule_set.proofs.laws.three_voters_anywhere.Goals as goal

pub returns-clause-held : goal.returns-clause-held
returns-clause-held c = λ key. search (rules, less_than_none)
