use Rattle.std.proofs.Common.{◌≡◌, ◌++◌, drop, take, map}
use Rattle.op_step.specs.Wishes.{step_with}
use Rattle.op_step.proofs.wishes.with_id.Given as goal

abbrev pub invariant-loop-step : goal.invariant-loop-step
invariant-loop-step l = take l.step-index l.step-items ++ map (step_with l.id) (drop l.step-index l.step-items) ≡ map (step_with l.id) l.initial.step-items
