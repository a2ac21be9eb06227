use Rattle.std.proofs.Common.{◌≡◌, take, map}
use Rattle.rule_fit.specs.Suits.{peer_suits}
use Rattle.rule_fit.proofs.table.row.Given as goal

abbrev pub invariant-loop-rule : goal.invariant-loop-rule
invariant-loop-rule l = l.row.items ≡ map (peer_suits l.leader l.stores l.now l.peer) (take l.rule-index l.rules)
