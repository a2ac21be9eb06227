use Rattle.std.proofs.Common.{◌∙◌, ap, rules, ℕ, List}
use Rattle.rule_set.specs.InForce.{rules_at}
use Rattle.rule_checker.specs.Plan.{Crosses}
use Rattle.rule_checker.proofs.TellLemmas.{split_tells, told_by_verdict}
use Rattle.rule_checker.proofs.VerdictLemmas.{no_border, whole_verdict}
use Rattle.rule_checker.proofs.inspect.check.Goals as goal

pub returns-clause-verdict : goal.returns-clause-verdict
returns-clause-verdict c =
    whole_verdict c.args.beat.now c.args.rules.now c.in_ok-rules.rules c.args.stores.now c.args.standing.now c.args.now c.judge.result
    (c.in_ok-rules.ensures.value ∙ ap (λ (key : List ℕ). rules_at key c.args.rules.now) c.as_slice.ensures.value)
    (no_border c.args.beat.now c.args.rules.now c.in_ok-keys.keys (c.is_empty.ensures.empty.0 c.if-not-is_empty.false) c.in_ok-keys.ensures.every)
    c.judge.ensures

pub returns-clause-tells : goal.returns-clause-tells
returns-clause-tells c =
    told_by_verdict c.args.beat.now c.args.rules.now c.args.stores.now c.args.standing.now c.args.now c.judge.result c.requires.apart
    (whole_verdict c.args.beat.now c.args.rules.now c.in_ok-rules.rules c.args.stores.now c.args.standing.now c.args.now c.judge.result
    (c.in_ok-rules.ensures.value ∙ ap (λ (key : List ℕ). rules_at key c.args.rules.now) c.as_slice.ensures.value)
    (no_border c.args.beat.now c.args.rules.now c.in_ok-keys.keys (c.is_empty.ensures.empty.0 c.if-not-is_empty.false) c.in_ok-keys.ensures.every)
    c.judge.ensures)

pub returns-then-not-is_empty-clause-tells : goal.returns-then-not-is_empty-clause-tells
returns-then-not-is_empty-clause-tells c =
    let crosses : Crosses c.args.beat.now c.args.rules.now c.in_ok-keys.keys = search rules in
    split_tells c.args.beat.now c.args.rules.now c.args.stores.now c.args.standing.now c.args.now c.in_ok-keys.keys crosses
