use Rattle.std.proofs.Common.{◌≡◌, take}
use Rattle.std.specs.Prelude.{flat_map}
use Rattle.pd_script.specs.Scripts.{store_by}
use Rattle.pd_script.specs.declared.act.Line.{Line}
use Rattle.pd_cluster.proofs.run_lines.acting.Given as goal

abbrev pub invariant-loop-line : goal.invariant-loop-line
invariant-loop-line l = l.stores.items ≡ flat_map (λ (line : Line). store_by line.actor) (take l.line-index l.lines)
