use Rattle.std.proofs.Common.{sym, ◌∙◌, ap, length, length-append, arith}
use Rattle.rule_set.specs.Changes.{with_rule}
use Rattle.rule_set.proofs.RuleLemmas.{set_of-push, length-with_rule, with_rule_some}
use Rattle.rule_set.proofs.set.gathered.Goals as goal

pub loop-rule-preserved : goal.loop-rule-preserved
loop-rule-preserved c =
    let value = c.set_reserved.ensures.value in
    let one = length-with_rule c.in-Some.rule c.reserve.new.self.items in
    let same = ap length c.set_reserved.ensures.value in
    let kept = ap length c.reserve.ensures.items in
    let least = c.loop-rule.invariant.5 in (
      tt,
      tt,
      value ∙ ap (with_rule c.in-Some.rule) (c.reserve.ensures.items ∙ c.loop-rule.invariant.2) ∙ sym (set_of-push c.loop-rule.yielded c.in-Some.rule),
      c.set_reserved.ensures.order,
      c.set_reserved.ensures.names,
      simp length-append (omega arith),
      λ more. rw c.set_reserved.ensures.value (with_rule_some c.in-Some.rule c.reserve.new.self.items),
    )
