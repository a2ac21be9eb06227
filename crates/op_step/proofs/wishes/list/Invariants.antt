use Rattle.std.proofs.Common.{◌≡◌, ◌++◌, drop}
use Rattle.op_step.proofs.wishes.list.Given as goal

abbrev pub invariant-loop-step : goal.invariant-loop-step
invariant-loop-step l = l.list ++ drop l.step-index l.steps ≡ l.steps
