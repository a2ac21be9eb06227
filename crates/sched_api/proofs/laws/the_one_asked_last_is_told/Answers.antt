use Rattle.sched_api.proofs.LawLemmas.{asked_now, told_last}
use Rattle.sched_api.proofs.laws.the_one_asked_last_is_told.Goals as goal

pub returns : goal.returns
returns c = record { asked = asked_now; told = told_last }
