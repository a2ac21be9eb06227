use Rattle.std.proofs.Common.{◌≡◌, ◌<◌, ℕ, List, true, get_or, ◌⊎◌}
use Rattle.std.specs.List.{Contains}
use Rattle.pd_types.specs.declared.rule.Rule.{Rule}
use Rattle.rule_set.specs.Borders.{AreRising, IsBorder, strictly_inside}
use Rattle.rule_set.proofs.border.borders.Given as goal

abbrev pub invariant-loop-rule : goal.invariant-loop-rule
invariant-loop-rule l = record {
  rising : AreRising l.keys.items;
  inside : (key : List ℕ) → Contains l.keys.items key → IsBorder l.rules l.region key;
  every : (i : ℕ) (d : Rule) (key : List ℕ) → i < l.rule-index → (key ≡ (get_or l.rules i d).start) ⊎ (key ≡ (get_or l.rules i d).end) → strictly_inside l.region key ≡ true → Contains l.keys.items key;
}
