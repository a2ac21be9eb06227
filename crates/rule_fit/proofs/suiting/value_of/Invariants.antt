use Rattle.std.proofs.Common.{◌≡◌, drop}
use Rattle.rule_fit.specs.Suits.{value_of}
use Rattle.rule_fit.proofs.suiting.value_of.Given as goal

abbrev pub invariant-loop-label : goal.invariant-loop-label
invariant-loop-label l = value_of l.key (drop l.label-index l.labels) ≡ value_of l.key l.labels
