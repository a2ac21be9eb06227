use Rattle.std.proofs.Common.{◌≡◌, fold, take}
use Rattle.op_control.specs.Table.{canceled}
use Rattle.pd_state.proofs.serve.free.Given as goal

abbrev pub invariant-loop-region : goal.invariant-loop-region
invariant-loop-region l = l.operators ≡ fold canceled l.fn.operators (take l.region-index l.removed)
