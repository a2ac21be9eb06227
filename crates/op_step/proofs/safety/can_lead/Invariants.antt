use Rattle.std.proofs.Common.{◌≡◌, ◌&&◌, drop}
use Rattle.std.specs.List.{list_any}
use Rattle.op_step.specs.Peers.{is_peer, is_target}
use Rattle.op_step.specs.Votes.{is_voter}
use Rattle.op_step.proofs.safety.can_lead.Given as goal

abbrev pub invariant-loop-peer : goal.invariant-loop-peer
invariant-loop-peer l = list_any (λ peer. is_peer l.id l.store peer && is_voter peer && is_target l.beat l.stores l.now peer) (drop l.peer-index l.peer-items) ≡ list_any (λ peer. is_peer l.id l.store peer && is_voter peer && is_target l.beat l.stores l.now peer) l.peer-items
