use Rattle.std.proofs.Common.{◌≡◌, All, length, map}
use Rattle.pd_run.specs.Pipes.{ArePipesTo}
use Rattle.pd_run.specs.declared.line.StoreLines.{StoreLines}
use Rattle.pd_run.proofs.pipe.open_pipes.Given as goal

abbrev pub invariant-loop-driver : goal.invariant-loop-driver
invariant-loop-driver l = All (λ one. ArePipesTo (map (λ (lines : StoreLines). lines.store) l.stores) one.items) l.pipes.items × (length l.pipes.items ≡ l._driver)
