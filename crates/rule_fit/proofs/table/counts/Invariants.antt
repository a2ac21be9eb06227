use Rattle.std.proofs.Common.{◌≡◌, take}
use Rattle.rule_fit.specs.Suits.{counts_of}
use Rattle.rule_fit.proofs.table.counts.Given as goal

abbrev pub invariant-loop-rule : goal.invariant-loop-rule
invariant-loop-rule l = l.counts.items ≡ counts_of (take l.rule-index l.rules)
