use Rattle.pd_state.proofs.Places.{legal_at}
use Rattle.pd_state.proofs.laws.each_reply_is_the_first_that_applies.Goals as goal

pub returns : goal.returns
returns c = record { first = legal_at }
