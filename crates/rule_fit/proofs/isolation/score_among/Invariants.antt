use Rattle.std.proofs.Common.{◌≡◌, ◌≤◌, ◌*◌, take, map}
use Rattle.rule_fit.specs.Isolation.{score_among}
use Rattle.rule_fit.proofs.isolation.score_among.Given as goal

abbrev pub invariant-loop-other : goal.invariant-loop-other
invariant-loop-other l = (l.score ≡ score_among l.own (map (λ other. other.now) (take l.other-index l.others)) l.labels) × (l.score ≤ l.other-index * 1000000)
