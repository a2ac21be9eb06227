use Rattle.std.proofs.Common.{◌≡◌, ◌++◌, drop, filter, not}
use Rattle.op_step.specs.Peers.{is_peer}
use Rattle.op_step.proofs.regions.others.Given as goal

abbrev pub invariant-loop-peer : goal.invariant-loop-peer
invariant-loop-peer l = l.all.items ++ filter (λ peer. not (is_peer l.id l.store peer)) (drop l.peer-index l.peers) ≡ filter (λ peer. not (is_peer l.id l.store peer)) l.peers
