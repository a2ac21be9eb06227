use Rattle.std.proofs.Common.{rules, of_calls, arith}
use Rattle.std.proofs.lemmas.Fn.{always_returns_same}
use Rattle.rule_set.specs.Order.{comes_before}
use Rattle.rule_set.proofs.RuleLemmas.{rules_parted}
use Rattle.rule_set.proofs.places.earlier.Goals as goal

pub returns-clause-before : goal.returns-clause-before
returns-clause-before c k d low =
    let point = c.partition_point.ensures.partitioned (λ one. comes_before one c.args.rule.now) (always_returns_same _ _ _ (λ a r f k. search (rules, of_calls))) (rules_parted c.args.rule.now c.args.rules.now c.requires) in
    point.0 k d (omega arith) low

pub returns-clause-after : goal.returns-clause-after
returns-clause-after c k d high low =
    let point = c.partition_point.ensures.partitioned (λ one. comes_before one c.args.rule.now) (always_returns_same _ _ _ (λ a r f k. search (rules, of_calls))) (rules_parted c.args.rule.now c.args.rules.now c.requires) in
    point.1 k d high low
