use Rattle.std.proofs.Common.{◌≡◌, ◌<◌, ℕ, length, get_or, Some, None, true}
use Rattle.rule_fit.specs.Table.{suits}
use Rattle.rule_fit.specs.Search.{IsSearch, Extends, marked}
use Rattle.rule_fit.proofs.search.reach.Given as goal

abbrev pub invariant-loop-other : goal.invariant-loop-other
invariant-loop-other l = record {
  search : IsSearch (suits l.table) l.given l.queue.items l.reached (length l.given);
  kept : Extends l.fn.queue.items l.fn.reached l.queue.items l.reached;
  holders : (q r : ℕ) → q < l.other → suits l.table l.peer r ≡ true → get_or l.given q None ≡ Some r → marked l.reached q ≡ true;
}
