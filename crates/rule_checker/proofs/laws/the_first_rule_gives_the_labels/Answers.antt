use Rattle.std.proofs.Common.{refl}
use Rattle.rule_checker.proofs.laws.the_first_rule_gives_the_labels.Goals as goal

pub returns : goal.returns
returns c = record {
  none = λ stores store. refl;
  first = λ rule rules stores store h. rw h refl;
  later = λ rule rules stores store h. rw h refl;
}
