use Rattle.op_step.proofs.NextLemmas.{next-is-least}
use Rattle.op_step.proofs.wishes.build.Goals as goal

pub returns-in-AddPeer-clause-next : goal.returns-in-AddPeer-clause-next
returns-in-AddPeer-clause-next c = next-is-least c.args.beat.now c.args.stores.now c.args.now

pub returns-in-TransferLeader-clause-next : goal.returns-in-TransferLeader-clause-next
returns-in-TransferLeader-clause-next c = next-is-least c.args.beat.now c.args.stores.now c.args.now

pub returns-in-RemovePeer-clause-next : goal.returns-in-RemovePeer-clause-next
returns-in-RemovePeer-clause-next c = next-is-least c.args.beat.now c.args.stores.now c.args.now

pub returns-in-MovePeer-clause-next : goal.returns-in-MovePeer-clause-next
returns-in-MovePeer-clause-next c = next-is-least c.args.beat.now c.args.stores.now c.args.now
