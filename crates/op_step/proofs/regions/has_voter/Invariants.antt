use Rattle.std.proofs.Common.{◌≡◌, ◌==◌, ◌&&◌, drop}
use Rattle.std.specs.List.{list_any}
use Rattle.op_step.specs.Votes.{is_voter}
use Rattle.op_step.proofs.regions.has_voter.Given as goal

abbrev pub invariant-loop-peer : goal.invariant-loop-peer
invariant-loop-peer l = list_any (λ peer. peer.id == l.id && is_voter peer) (drop l.peer-index l.peer-items) ≡ list_any (λ peer. peer.id == l.id && is_voter peer) l.peer-items
