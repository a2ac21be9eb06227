use Rattle.sched_api.proofs.LawLemmas.{round}
use Rattle.sched_api.proofs.laws.turns_go_round_the_list.Goals as goal

pub returns : goal.returns
returns c = record { round = round }
