use Rattle.std.proofs.Common.{map, take}
use Rattle.pd_run.specs.Pipes.{ArePipesTo}
use Rattle.pd_run.specs.declared.line.StoreLines.{StoreLines}
use Rattle.pd_run.proofs.pipe.pipes_to.Given as goal

abbrev pub invariant-loop-lines : goal.invariant-loop-lines
invariant-loop-lines l = ArePipesTo (map (λ (lines : StoreLines). lines.store) (take l.lines-index l.stores)) l.pipes.items
