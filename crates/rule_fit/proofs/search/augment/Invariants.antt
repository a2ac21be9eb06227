use Rattle.std.proofs.Common.{◌≡◌, ◌+◌, ◌<◌, length, get_or, true}
use Rattle.rule_fit.specs.Assignment.{held, placed, IsAssignment}
use Rattle.rule_fit.specs.Table.{suits}
use Rattle.rule_fit.specs.Trail.{IsTrail, peer_at}
use Rattle.rule_fit.proofs.search.augment.Given as goal

abbrev pub invariant-loop-link : goal.invariant-loop-link
invariant-loop-link l = record {
  assigned : IsAssignment (suits l.table) (length l.given) l.counts l.given;
  trail : IsTrail (suits l.table) (length l.given) l.given l.queue (l.at + 1);
  known : l.freed < length l.counts;
  suited : suits l.table (peer_at l.queue l.at) l.freed ≡ true;
  room : held l.given l.freed < get_or l.counts l.freed 0;
  same : placed l.given ≡ placed l.fn.given;
}

abbrev pub decreases-loop-link : goal.decreases-loop-link
decreases-loop-link l = l.at
