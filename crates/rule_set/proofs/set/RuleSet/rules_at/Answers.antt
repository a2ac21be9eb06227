use Rattle.std.proofs.Common.{◌≡◌, true, subst, ◌∙◌}
use Rattle.std.specs.Prelude.{◌↔◌}
use Rattle.std.specs.List.{Contains, All}
use Rattle.pd_types.specs.declared.rule.Rule.{Rule}
use Rattle.rule_set.specs.Order.{AreApart, AreInOrder, AreNamedApart, comes_before}
use Rattle.rule_set.specs.RuleSets.{HasFewLocations, IsRuleSet}
use Rattle.rule_set.specs.InForce.{IsInForce}
use Rattle.rule_set.proofs.ForceLemmas.{all_at, pairs_at, found_in_force, in_force_found, of_found}
use Rattle.rule_set.proofs.set.RuleSet.rules_at.Goals as goal

held : (c : goal.After-in_force) → IsRuleSet c.args.self.now
held c = subst IsRuleSet c.self.view_is c.self.invariant

pub returns-clause-members : goal.returns-clause-members
returns-clause-members c =
    of_found (λ rules. (rule : Rule) → Contains rules rule ↔ IsInForce c.args.self.now c.args.key.now rule) c.args.key.now c.as_slice.result.now c.args.self.now c.in_force.result c.in_force.ensures.value (c.as_slice.ensures.value ∙ c.self.view_is)
    (λ rule. (found_in_force c.args.key.now c.args.self.now rule, in_force_found c.args.key.now c.args.self.now rule))

pub returns-clause-order : goal.returns-clause-order
returns-clause-order c =
    of_found AreInOrder c.args.key.now c.as_slice.result.now c.args.self.now c.in_force.result c.in_force.ensures.value (c.as_slice.ensures.value ∙ c.self.view_is)
    (pairs_at (λ one later. comes_before one later ≡ true) c.args.key.now c.args.self.now (held c).order)

pub returns-clause-names : goal.returns-clause-names
returns-clause-names c =
    of_found AreNamedApart c.args.key.now c.as_slice.result.now c.args.self.now c.in_force.result c.in_force.ensures.value (c.as_slice.ensures.value ∙ c.self.view_is)
    (pairs_at AreApart c.args.key.now c.args.self.now (held c).names)

pub returns-clause-locations : goal.returns-clause-locations
returns-clause-locations c =
    of_found (All HasFewLocations) c.args.key.now c.as_slice.result.now c.args.self.now c.in_force.result c.in_force.ensures.value (c.as_slice.ensures.value ∙ c.self.view_is)
    (all_at HasFewLocations c.args.key.now c.args.self.now (held c).locations)
