use Rattle.std.proofs.Common.{◌≡◌, ◌<◌, ◌≤◌, ℕ, get_or, true}
use Rattle.rule_fit.specs.Assignment.{held}
use Rattle.rule_fit.specs.Table.{suits}
use Rattle.rule_fit.proofs.search.open_rule.Given as goal

abbrev pub invariant-loop-place : goal.invariant-loop-place
invariant-loop-place l = (r : ℕ) → r < l.place → suits l.table l.peer r ≡ true → get_or l.counts r 0 ≤ held l.given r
