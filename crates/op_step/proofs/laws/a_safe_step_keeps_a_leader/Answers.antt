use Rattle.op_step.proofs.FinishedLemmas.{leader_stays, leader_is_fit, learner_is_fit}
use Rattle.op_step.proofs.laws.a_safe_step_keeps_a_leader.Goals as goal

pub returns-clause-stays : goal.returns-clause-stays
returns-clause-stays c = leader_stays

pub returns-clause-fit : goal.returns-clause-fit
returns-clause-fit c = leader_is_fit

pub returns-clause-votes : goal.returns-clause-votes
returns-clause-votes c = learner_is_fit
