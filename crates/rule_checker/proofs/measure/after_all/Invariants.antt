use Rattle.std.proofs.Common.{◌≡◌, drop}
use Rattle.rule_checker.specs.Candidates.{after_all}
use Rattle.rule_checker.proofs.measure.after_all.Given as goal

abbrev pub invariant-loop-step : goal.invariant-loop-step
invariant-loop-step l = after_all (drop l.step-index l.steps) l.left ≡ after_all l.steps l.beat
