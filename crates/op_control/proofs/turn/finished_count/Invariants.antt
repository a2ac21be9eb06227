use Rattle.std.proofs.Common.{◌≡◌, ◌+◌, drop}
use Rattle.op_control.specs.Turn.{finished_count}
use Rattle.op_control.proofs.turn.finished_count.Given as goal

abbrev pub invariant-loop-step : goal.invariant-loop-step
invariant-loop-step l = (l.count + finished_count l.beat (drop l.step-index l.steps) ≡ finished_count l.beat l.steps) × (l.count ≡ l.step-index)
