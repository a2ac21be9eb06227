use Rattle.std.proofs.Common.{◌≡◌, ◌<◌, ◌≤◌, ◌-◌, ℕ, length, get_or, Some, None, true}
use Rattle.rule_fit.specs.Assignment.{held}
use Rattle.rule_fit.specs.Table.{suits}
use Rattle.rule_fit.specs.Trail.{peer_at}
use Rattle.rule_fit.specs.Search.{IsSearch, marked}
use Rattle.rule_fit.proofs.search.search.Given as goal

abbrev pub invariant-loop-at : goal.invariant-loop-at
invariant-loop-at l = record {
  search : IsSearch (suits l.table) l.given l.queue.items l.reached.items (length l.given);
  inside : l.at ≤ length l.queue.items;
  full : (i r : ℕ) → i < l.at → r < length l.counts → suits l.table (peer_at l.queue.items i) r ≡ true → get_or l.counts r 0 ≤ held l.given r;
  holders : (i q r : ℕ) → i < l.at → suits l.table (peer_at l.queue.items i) r ≡ true → get_or l.given q None ≡ Some r → marked l.reached.items q ≡ true;
}

abbrev pub decreases-loop-at : goal.decreases-loop-at
decreases-loop-at l = length l.given - l.at
