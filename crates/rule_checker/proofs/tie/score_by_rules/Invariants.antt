use Rattle.std.proofs.Common.{◌≡◌, drop}
use Rattle.rule_checker.specs.Ranks.{locations_by}
use Rattle.rule_checker.proofs.tie.score_by_rules.Given as goal

abbrev pub invariant-loop-rule : goal.invariant-loop-rule
invariant-loop-rule l = locations_by (drop l.rule-index l.on.rules.now) l.own ≡ locations_by l.on.rules.now l.own
