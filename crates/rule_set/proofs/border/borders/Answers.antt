use Rattle.rule_set.proofs.BorderLemmas.{border_more, every_more}
use Rattle.rule_set.proofs.border.borders.Goals as goal

pub loop-rule-preserved : goal.loop-rule-preserved
loop-rule-preserved c =
    record {
      rising = c.in_ok-take-2.ensures.rising;
      inside = border_more c.args.rules.now c.args.region.now c.loop-rule.keys.items c.take.new.keys.items c.take-in-loop-rule.new.keys.items c.loop-rule.rule-index c.rule-item.result c.loop-rule-test.true c.rule-item.is c.in_ok-take.ensures.ok c.in_ok-take-2.ensures.ok c.loop-rule.invariant.inside;
      every = every_more c.args.rules.now c.args.region.now c.loop-rule.keys.items c.take.new.keys.items c.take-in-loop-rule.new.keys.items c.loop-rule.rule-index c.rule-item.result c.loop-rule-test.true c.rule-item.is c.in_ok-take.ensures.ok c.in_ok-take-2.ensures.ok c.loop-rule.invariant.every;
    }
