use Rattle.std.proofs.Common.{refl}
use Rattle.rule_checker.proofs.WordLemmas.{comes, goes, leader_goes, promotes, too_many, transfers}
use Rattle.rule_checker.proofs.laws.who_is_a_candidate.Goals as goal

pub returns : goal.returns
returns c = record {
  promote = promotes;
  transfer = transfers;
  voter = comes;
  learner = λ beat rules stores now peer. refl;
  too_many = too_many;
  goes = goes;
  leader = leader_goes;
  unruled = λ class beat stores now peer is. is.ruled refl;
}
