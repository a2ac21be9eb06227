use Rattle.op_step.proofs.FinishedLemmas.{add_finishes, promote_finishes, learner_unfinished, transfer_finishes, lead_unfinished, remove_finishes, removal_unfinished}
use Rattle.op_step.proofs.laws.a_step_that_is_carried_out_is_finished.Goals as goal

pub returns-clause-add : goal.returns-clause-add
returns-clause-add c = add_finishes

pub returns-clause-promote : goal.returns-clause-promote
returns-clause-promote c = promote_finishes

pub returns-clause-learner : goal.returns-clause-learner
returns-clause-learner c = learner_unfinished

pub returns-clause-transfer : goal.returns-clause-transfer
returns-clause-transfer c = transfer_finishes

pub returns-clause-elsewhere : goal.returns-clause-elsewhere
returns-clause-elsewhere c = lead_unfinished

pub returns-clause-remove : goal.returns-clause-remove
returns-clause-remove c = remove_finishes

pub returns-clause-there : goal.returns-clause-there
returns-clause-there c = removal_unfinished
