use Rattle.balance_sched.proofs.LawLemmas.{squares, wide_by}
use Rattle.balance_sched.proofs.laws.a_wide_difference_is_evened.Goals as goal

pub returns : goal.returns
returns c = record { wide = λ source target difference e. (squares source target difference e, wide_by source target difference e) }
