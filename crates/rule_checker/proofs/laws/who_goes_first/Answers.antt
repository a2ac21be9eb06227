use Rattle.std.proofs.Common.{refl, sym}
use Rattle.rule_checker.proofs.WordLemmas.{below, first_by, then_by}
use Rattle.rule_checker.proofs.laws.who_goes_first.Goals as goal

pub returns : goal.returns
returns c = record {
  number = λ class held one other low. first_by one.to other.to _ low;
  promote = λ held one other same low. then_by _ _ _ same (below _ _ low);
  transfer = λ held one other same low. then_by _ _ _ same (below _ _ low);
  far = λ held one other same low. then_by _ _ _ same (first_by _ _ _ low);
  fewer = λ held one other same score low. then_by _ _ _ same (then_by _ _ _ (sym score) (first_by _ _ _ low));
  lesser = λ held one other same score count low. then_by _ _ _ same (then_by _ _ _ (sym score) (then_by _ _ _ count (below _ _ low)));
  learner = λ held one other. refl;
  near = λ held one other same low. then_by _ _ _ same (first_by _ _ _ low);
  remove = λ held one other same score low. then_by _ _ _ same (then_by _ _ _ score (below _ _ low));
}
