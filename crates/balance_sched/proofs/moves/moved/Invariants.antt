use Rattle.std.proofs.Common.{◌≡◌, take, map}
use Rattle.balance_sched.specs.Moves.{on_target}
use Rattle.balance_sched.proofs.moves.moved.Given as goal

abbrev pub invariant-loop-peer : goal.invariant-loop-peer
invariant-loop-peer l = l.left ≡ map (on_target l.one) (take l.peer-index l.peers)
