use Rattle.std.proofs.Common.{ℕ, ◌<◌, get_or, length}
use Rattle.pd_types.specs.declared.rule.Rule.{Rule}
use Rattle.rule_set.specs.Order.{AreApart}
use Rattle.rule_set.proofs.conditions.are_named_apart.Given as goal

abbrev pub invariant-loop-at : goal.invariant-loop-at
invariant-loop-at l = (i j : ℕ) (d : Rule) → i < l.at → i < j → j < length l.rules → AreApart (get_or l.rules i d) (get_or l.rules j d)
