use Rattle.std.proofs.Common.{◌≡◌, drop, take}
use Rattle.std.proofs.Common.{◌++◌}
use Rattle.op_control.specs.Table.{joined}
use Rattle.op_control.proofs.busy.place_of.Given as goal

abbrev pub invariant-loop-one : goal.invariant-loop-one
invariant-loop-one l = (l.place ≡ l.one-index) × (take l.one-index l.busy ++ joined l.region (drop l.one-index l.busy) ≡ joined l.region l.busy)
