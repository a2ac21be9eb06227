use Rattle.std.proofs.Common.{◌≡◌, ◌≤◌, ◌*◌, ◌^◌, cond, length, get_or}
use Rattle.rule_fit.specs.Sums.{sum_below}
use Rattle.rule_fit.specs.Chosen.{wanted}
use Rattle.rule_fit.specs.Ids.{chosen_by}
use Rattle.rule_fit.specs.Suits.{suits_in, counts_of}
use Rattle.rule_fit.proofs.certificate.capacity.Given as goal

abbrev pub invariant-loop-rule : goal.invariant-loop-rule
invariant-loop-rule l = (l.capacity ≡ sum_below l.rule (λ r. cond (wanted (suits_in l.beat l.rules l.stores l.now) (length l.beat.region.peers) (chosen_by l.ids l.beat.region.peers) r) (get_or (counts_of l.rules) r 0) 0)) × (l.capacity ≤ l.rule * 2 ^ 32)
