use Rattle.std.proofs.Common.{◌≡◌, ◌<◌, ◌≤◌, length}
use Rattle.rule_set.specs.Order.{AreInOrder, AreNamedApart}
use Rattle.rule_set.specs.Changes.{set_of}
use Rattle.rule_set.proofs.set.gathered.Given as goal

abbrev pub invariant-loop-rule : goal.invariant-loop-rule
invariant-loop-rule l =
    (goal.iterator-loop-rule).can_next l.rule-iterator ×
    (goal.iterator-loop-rule).is_finite l.rule-iterator ×
    (l.items.items ≡ set_of l.yielded) ×
    AreInOrder l.items.items ×
    AreNamedApart l.items.items ×
    (length l.items.items ≤ length l.yielded) ×
    (0 < length l.yielded → 0 < length l.items.items)
