use Rattle.std.proofs.Common.{refl}
use Rattle.rule_checker.proofs.DoneLemmas.{every_store}
use Rattle.rule_checker.proofs.laws.every_peer_and_store_is_looked_at.Goals as goal

pub returns : goal.returns
returns c = record {
  promote = λ beat stores. refl;
  transfer = λ beat stores. refl;
  remove = λ beat stores. refl;
  voter = every_store;
  learner = λ beat stores. refl;
}
