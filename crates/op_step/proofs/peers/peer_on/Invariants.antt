use Rattle.std.proofs.Common.{◌≡◌, ◌==◌, drop, find}
use Rattle.op_step.proofs.peers.peer_on.Given as goal

abbrev pub invariant-loop-peer : goal.invariant-loop-peer
invariant-loop-peer l = find (λ peer. peer.store == l.store) (drop l.peer-index l.peer-items) ≡ find (λ peer. peer.store == l.store) l.peer-items
