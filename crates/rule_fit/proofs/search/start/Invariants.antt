use Rattle.std.proofs.Common.{ℕ, Bool}
use Rattle.rule_fit.specs.Search.{IsSearch}
use Rattle.rule_fit.proofs.search.start.Given as goal

abbrev pub invariant-loop-peer : goal.invariant-loop-peer
invariant-loop-peer l = (test : ℕ → ℕ → Bool) → IsSearch test l.given l.queue.items l.reached.items l.peer
