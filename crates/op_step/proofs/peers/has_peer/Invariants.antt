use Rattle.std.proofs.Common.{◌≡◌, drop}
use Rattle.std.specs.List.{list_any}
use Rattle.op_step.specs.Peers.{is_peer}
use Rattle.op_step.proofs.peers.has_peer.Given as goal

abbrev pub invariant-loop-peer : goal.invariant-loop-peer
invariant-loop-peer l = list_any (is_peer l.id l.store) (drop l.peer-index l.peer-items) ≡ list_any (is_peer l.id l.store) l.peer-items
