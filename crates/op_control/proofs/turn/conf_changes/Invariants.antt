use Rattle.std.proofs.Common.{◌≡◌, ◌+◌, ◌≤◌, drop}
use Rattle.op_control.specs.Turn.{conf_changes}
use Rattle.op_control.proofs.turn.conf_changes.Given as goal

abbrev pub invariant-loop-step : goal.invariant-loop-step
invariant-loop-step l = (l.total + conf_changes (drop l.step-index l.steps) ≡ conf_changes l.steps) × (l.total ≤ l.step-index)
