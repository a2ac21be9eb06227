use Rattle.rule_set.proofs.SetLemmas.{with_from, with_here, with_old, left_from, left_old}
use Rattle.std.proofs.Common.{◌≡◌, ◌⊎◌, inl, inr, subst, List}
use Rattle.std.specs.List.{Contains}
use Rattle.pd_types.specs.declared.rule.Rule.{Rule}
use Rattle.rule_set.specs.Order.{AreApart}
use Rattle.rule_set.specs.Changes.{with_rule}
use Rattle.rule_set.proofs.laws.rules_go_by_their_names.Goals as goal

with_back : (rule one : Rule) (rules : List Rule) → (rule ≡ one) ⊎ (Contains rules one × AreApart one rule) → Contains (with_rule rule rules) one
with_back rule one rules (inl here) = subst (Contains (with_rule rule rules)) here (with_here rule rules)
with_back rule one rules (inr old) = with_old rule one rules old.0 old.1

pub returns-clause-set : goal.returns-clause-set
returns-clause-set c = λ rule one rules. (with_from rule one rules, with_back rule one rules)

pub returns-clause-removed : goal.returns-clause-removed
returns-clause-removed c = λ group id one rules. (left_from group id one rules, λ both. left_old group id one rules both.0 both.1)
