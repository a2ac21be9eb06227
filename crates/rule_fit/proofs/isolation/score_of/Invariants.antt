use Rattle.std.proofs.Common.{◌≡◌, ◌≤◌, ◌*◌, take}
use Rattle.rule_fit.specs.Isolation.{score_from}
use Rattle.rule_fit.proofs.isolation.score_of.Given as goal

abbrev pub invariant-loop-other : goal.invariant-loop-other
invariant-loop-other l = (l.score ≡ score_from l.own l.stores (take l.other-index l.others) l.labels) × (l.score ≤ l.other-index * 1000000)
