use Rattle.std.proofs.Common.{ℕ, ◌<◌, get_or}
use Rattle.pd_types.specs.declared.rule.Rule.{Rule}
use Rattle.rule_set.specs.RuleSets.{HasFewLocations}
use Rattle.rule_set.proofs.conditions.have_few_locations.Given as goal

abbrev pub invariant-loop-rule : goal.invariant-loop-rule
invariant-loop-rule l = (k : ℕ) (d : Rule) → k < l.rule-index → HasFewLocations (get_or l.rules k d)
