use Rattle.std.proofs.Common.{◌≡◌, drop}
use Rattle.pd_cluster.specs.Streams.{waiting_for, with_actors}
use Rattle.pd_cluster.proofs.streams.Streams.of.Given as goal

abbrev pub invariant-loop-line : goal.invariant-loop-line
invariant-loop-line l = waiting_for l.lines ≡ with_actors l.lists (drop l.line-index l.lines)
