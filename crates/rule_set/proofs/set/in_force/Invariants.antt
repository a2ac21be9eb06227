use Rattle.std.proofs.Common.{◌≡◌, ◌++◌, drop}
use Rattle.rule_set.specs.InForce.{rules_at}
use Rattle.rule_set.proofs.set.in_force.Given as goal

abbrev pub invariant-loop-at : goal.invariant-loop-at
invariant-loop-at l = l.found ++ rules_at l.key (drop l.at l.rules) ≡ rules_at l.key l.rules
