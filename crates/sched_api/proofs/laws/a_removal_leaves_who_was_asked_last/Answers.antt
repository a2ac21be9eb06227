use Rattle.sched_api.proofs.LawLemmas.{gone_last, nobody_last, stays_last}
use Rattle.sched_api.proofs.laws.a_removal_leaves_who_was_asked_last.Goals as goal

pub returns : goal.returns
returns c = record { stays = stays_last; gone = gone_last; nobody = nobody_last }
