use Rattle.std.proofs.Common.{◌≡◌, take, map}
use Rattle.rule_fit.specs.Suits.{peer_suits}
use Rattle.rule_fit.proofs.table.table.Given as goal

abbrev pub invariant-loop-peer : goal.invariant-loop-peer
invariant-loop-peer l = map (λ row. row.items) l.table.items ≡ map (λ peer. map (peer_suits l.leader l.stores l.now peer) l.rules) (take l.peer-index l.peers)
