use Rattle.std.proofs.Common.{◌≢◌, All, take}
use Rattle.pd_shared.specs.Outlets.{OutletValue}
use Rattle.pd_run.proofs.end.place_of.Given as goal

abbrev pub invariant-loop-place : goal.invariant-loop-place
invariant-loop-place l = All (λ (outlet : OutletValue). outlet.store ≢ l.store) (take l.place l.givers)
