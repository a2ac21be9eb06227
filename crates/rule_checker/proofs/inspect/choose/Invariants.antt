use Rattle.std.proofs.Common.{◌<◌}
use Rattle.rule_checker.specs.Plan.{HasNone}
use Rattle.rule_checker.specs.Ranks.{place_of}
use Rattle.rule_checker.specs.declared.class.Class.{Class}
use Rattle.rule_checker.proofs.inspect.choose.Given as goal

abbrev pub invariant-loop-place : goal.invariant-loop-place
invariant-loop-place l = (other : Class) → place_of other < l.place → HasNone other l.on.beat.now l.on.rules.now l.on.stores.now l.on.now l.from
