use Rattle.std.proofs.Common.{◌≡◌, drop}
use Rattle.rule_fit.specs.Ids.{apart_test}
use Rattle.rule_fit.proofs.ids.are_apart.Given as goal

abbrev pub invariant-loop-place : goal.invariant-loop-place
invariant-loop-place l = apart_test (drop l.place l.peers) ≡ apart_test l.peers
