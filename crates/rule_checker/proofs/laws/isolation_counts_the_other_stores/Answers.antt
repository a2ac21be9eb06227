use Rattle.std.proofs.Common.{refl, ap}
use Rattle.rule_checker.specs.Ranks.{score_beside}
use Rattle.rule_checker.proofs.OtherStores.{other_stores}
use Rattle.rule_checker.proofs.laws.isolation_counts_the_other_stores.Goals as goal

pub returns : goal.returns
returns c = record {
  voter = λ beat rules stores peer. refl;
  learner = λ beat rules stores peer. refl;
  goes = λ beat rules stores peer before behind is apart. ap (score_beside rules stores peer.store) (other_stores peer beat.region.peers before behind is apart);
}
