use Rattle.rule_checker.proofs.DoneLemmas.{goes, leader, learner, promotes, transfers, voter}
use Rattle.rule_checker.proofs.laws.a_plan_does_what_its_class_says.Goals as goal

pub returns : goal.returns
returns c = record {
  promote = promotes;
  transfer = transfers;
  voter = voter;
  learner = learner;
  remove = goes;
  leader = leader;
}
