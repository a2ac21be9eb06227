use Rattle.std.proofs.Common.{◌≡◌, drop}
use Rattle.rule_fit.specs.Isolation.{score_by}
use Rattle.rule_fit.proofs.isolation.score_by.Given as goal

abbrev pub invariant-loop-place : goal.invariant-loop-place
invariant-loop-place l = score_by l.one l.other (drop l.place l.labels) ≡ score_by l.one l.other l.labels
