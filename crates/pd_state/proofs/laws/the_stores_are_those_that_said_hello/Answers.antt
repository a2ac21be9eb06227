use Rattle.pd_state.proofs.KnownLemmas.{are_known, term_part}
use Rattle.pd_state.proofs.laws.the_stores_are_those_that_said_hello.Goals as goal

pub returns : goal.returns
returns c = record { known = λ driver past entries legal is. are_known entries (term_part past entries is) }
