use Rattle.rule_set.proofs.Words.{hides_by, by_hides}
use Rattle.rule_set.proofs.laws.an_override_hides_its_group.Goals as goal

pub returns : goal.returns
returns c = λ key rule later. (hides_by key rule later, by_hides key rule later)
