use Rattle.std.proofs.Common.{◌≡◌, ◌++◌, drop, map}
use Rattle.rule_checker.specs.Arrival.{with_room}
use Rattle.rule_checker.proofs.arrival.roomy_rules.Given as goal

abbrev pub invariant-loop-place : goal.invariant-loop-place
invariant-loop-place l = map (λ rule. rule.now) l.roomy.items ++ with_room (drop l.place l.rules) (drop l.place l.rooms) ≡ with_room l.rules l.rooms
