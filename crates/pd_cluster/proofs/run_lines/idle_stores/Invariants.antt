use Rattle.std.proofs.Common.{◌≡◌, map, take}
use Rattle.pd_run.specs.Runs.{lines_of}
use Rattle.pd_cluster.specs.Dealing.{without_lines}
use Rattle.pd_cluster.proofs.run_lines.idle_stores.Given as goal

abbrev pub invariant-loop-id : goal.invariant-loop-id
invariant-loop-id l = map lines_of l.stores.items ≡ map without_lines (take l.id-index l.ids)
