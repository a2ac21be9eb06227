use Rattle.std.proofs.Common.{◌≡◌, drop, filter, fold, None}
use Rattle.op_step.specs.Wishes.{lesser, may_lead}
use Rattle.op_step.proofs.wishes.least_leader.Given as goal

abbrev pub invariant-loop-peer : goal.invariant-loop-peer
invariant-loop-peer l = fold lesser l.best (filter (may_lead l.beat l.stores l.now) (drop l.peer-index l.peer-items)) ≡ fold lesser None (filter (may_lead l.beat l.stores l.now) l.peer-items)
