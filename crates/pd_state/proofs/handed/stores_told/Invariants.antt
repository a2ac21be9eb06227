use Rattle.std.proofs.Common.{◌≡◌, map, take}
use Rattle.pd_state.specs.HandedOut.{stores_told}
use Rattle.pd_state.specs.Steps.{loaded_at}
use Rattle.pd_state.proofs.handed.stores_told.Given as goal

abbrev pub invariant-loop-cell : goal.invariant-loop-cell
invariant-loop-cell l = l.stores ≡ map (loaded_at l.fn.began) (stores_told (take l.cell-index l.cells))
