use Rattle.std.proofs.Common.{◌≡◌, ◌&&◌, drop, not}
use Rattle.std.specs.List.{list_any}
use Rattle.pd_types.specs.Roles.{is_learner}
use Rattle.op_step.specs.Peers.{is_peer, is_pending}
use Rattle.store_table.specs.Entries.{is_live}
use Rattle.op_step.proofs.safety.can_vote.Given as goal

abbrev pub invariant-loop-peer : goal.invariant-loop-peer
invariant-loop-peer l = list_any (λ peer. is_peer l.id l.store peer && is_learner peer.role && is_live peer.store l.now l.stores && not (is_pending l.beat peer.id)) (drop l.peer-index l.peer-items) ≡ list_any (λ peer. is_peer l.id l.store peer && is_learner peer.role && is_live peer.store l.now l.stores && not (is_pending l.beat peer.id)) l.peer-items
