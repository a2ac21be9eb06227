use Rattle.std.proofs.Common.{sym, ◌∙◌, subst, List, arith}
use Rattle.std.specs.Prelude.{◌↔◌}
use Rattle.std.specs.List.{Contains}
use Rattle.pd_types.specs.declared.rule.Rule.{Rule}
use Rattle.rule_set.specs.RuleSets.{IsRuleSet}
use Rattle.rule_set.proofs.SetLemmas.{set_of_all, set_of_only, set_of_locations}
use Rattle.rule_set.proofs.set.RuleSet.of.Goals as goal

pub returns-clause-members : goal.returns-clause-members
returns-clause-members c =
    subst (λ (xs : List Rule). (rule : Rule) → Contains xs rule ↔ Contains c.args.rules rule) (sym (c.of-rules.ensures.value ∙ c.in_ok-gathered.ensures.value))
    (λ rule. (set_of_only c.args.rules rule, λ has. set_of_all c.args.rules rule c.requires.names has))

pub invariant_of-result : goal.invariant_of-result
invariant_of-result c =
    let value = c.in_ok-gathered.ensures.value in
    let fewer = c.in_ok-gathered.ensures.fewer in
    let least = c.requires.few in
    subst IsRuleSet (sym c.of-rules.ensures.value)
    (record {
      order = c.in_ok-gathered.ensures.order;
      names = c.in_ok-gathered.ensures.names;
      some = c.in_ok-gathered.ensures.some c.requires.some;
      few = omega arith;
      locations = rw value (set_of_locations c.args.rules c.requires.locations);
    })
