-- An operator with another progress. Private contracts alone cite this.
use Rattle.std.specs.Prelude.{ℕ}
use Rattle.op_control.specs.declared.operator.Operator.{Operator}
use Rattle.op_control.specs.declared.operator.OpState.{OpState}

-- the operator with these steps passed, in this state, with this start
abbrev pub progressed : ℕ → OpState → ℕ → Operator → Operator
progressed passed state started op = record op { passed = passed; state = state; started = started }
