use Rattle.std.proofs.Common.{◌≡◌, ◌==◌, drop, find}
use Rattle.balance_sched.proofs.moves.peer_on.Given as goal

abbrev pub invariant-loop-peer : goal.invariant-loop-peer
invariant-loop-peer l = find (λ peer. peer.store == l.store) (drop l.peer-index l.peer-items) ≡ find (λ peer. peer.store == l.store) l.peer-items
