use Rattle.std.proofs.Common.{◌≡◌, ◌==◌, drop}
use Rattle.std.specs.List.{list_any}
use Rattle.op_step.proofs.peers.has_id.Given as goal

abbrev pub invariant-loop-peer : goal.invariant-loop-peer
invariant-loop-peer l = list_any (λ peer. peer.id == l.id) (drop l.peer-index l.peer-items) ≡ list_any (λ peer. peer.id == l.id) l.peer-items
