use Rattle.op_step.proofs.NextLemmas.{next-is-least}
use Rattle.op_step.proofs.wishes.next_leader.Goals as goal

pub returns-clause-next : goal.returns-clause-next
returns-clause-next c = rw c.least_leader.ensures (next-is-least c.args.beat.now c.args.stores.now c.args.now)
