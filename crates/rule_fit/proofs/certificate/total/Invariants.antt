use Rattle.std.proofs.Common.{◌≡◌, ◌≤◌, ◌*◌, ◌^◌, sum, take}
use Rattle.rule_fit.specs.Suits.{counts_of}
use Rattle.rule_fit.proofs.certificate.total.Given as goal

abbrev pub invariant-loop-rule : goal.invariant-loop-rule
invariant-loop-rule l = (l.total ≡ sum (counts_of (take l.rule-index l.rules))) × (l.total ≤ l.rule-index * 2 ^ 32)
