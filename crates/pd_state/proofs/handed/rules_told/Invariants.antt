use Rattle.std.proofs.Common.{◌≡◌, ◌≢◌, Some, [], take}
use Rattle.pd_state.specs.HandedOut.{rules_told}
use Rattle.pd_state.specs.Steps.{set_list}
use Rattle.pd_state.proofs.handed.rules_told.Given as goal

abbrev pub invariant-loop-cell : goal.invariant-loop-cell
invariant-loop-cell l = record {
  told : set_list l.rules ≡ rules_told (take l.cell-index l.cells);
  some : l.rules ≢ Some [];
}
