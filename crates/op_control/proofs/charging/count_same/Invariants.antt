use Rattle.std.proofs.Common.{◌≡◌, ◌+◌, ◌≤◌, drop}
use Rattle.op_control.specs.Counting.{count_same}
use Rattle.op_control.proofs.charging.count_same.Given as goal

abbrev pub invariant-loop-step : goal.invariant-loop-step
invariant-loop-step l = (l.count + count_same l.kind l.store (drop l.step-index l.steps) ≡ count_same l.kind l.store l.steps) × (l.count ≤ l.step-index)
