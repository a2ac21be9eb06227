use Rattle.std.proofs.Common.{length}
use Rattle.rule_fit.specs.Table.{suits}
use Rattle.rule_fit.proofs.Duality.{closed_greatest, closed_again}
use Rattle.rule_fit.proofs.assign.greatest.Goals as goal

pub returns-in-Closed-clause-greatest : goal.returns-in-Closed-clause-greatest
returns-in-Closed-clause-greatest c =
    closed_greatest (suits c.args.table.now) (length c.args.table.now) c.args.counts.now c.in-Closed.reached.items c.loop-given.given.items c.loop-given.invariant
    (closed_again (suits c.args.table.now) c.args.counts.now c.deref.result.now c.loop-given.given.items (length c.args.table.now) c.in-Closed.reached.items c.deref.ensures.value c.loop-given.invariant.each (rw c.in-Closed.is at c.in_ok-queue.ensures))
