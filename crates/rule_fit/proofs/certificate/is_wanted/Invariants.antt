use Rattle.std.proofs.Common.{◌≡◌, ◌<◌, ℕ, cond, false}
use Rattle.rule_fit.specs.Ids.{chosen_by}
use Rattle.rule_fit.specs.Suits.{suits_in}
use Rattle.rule_fit.proofs.certificate.is_wanted.Given as goal

abbrev pub invariant-loop-peer : goal.invariant-loop-peer
invariant-loop-peer l = (p : ℕ) → p < l.peer → cond (chosen_by l.ids l.beat.region.peers p) (suits_in l.beat l.rules l.stores l.now p l.rule) false ≡ false
