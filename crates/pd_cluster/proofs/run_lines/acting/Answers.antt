use Rattle.pd_cluster.proofs.Dealing.{are_acting}
use Rattle.pd_cluster.proofs.run_lines.acting.Goals as goal

pub returns : goal.returns
returns c = record { acting = are_acting c.args.lines.now c.loop-line.line-index c.loop-line.stores.items c.sort.new.self.items _ c.loop-line-test.false c.loop-line.invariant c.sort.ensures.permutation c.in_ok-sort.ensures.sorted c.dedup.ensures.filtered }
