use Rattle.meta_store.proofs.Kept.{kept_known}
use Rattle.pd_state.specs.Heard.{answers_of}
use Rattle.pd_state.proofs.laws.the_revisions_are_those_heard.Goals as goal

pub returns : goal.returns
returns c = record { known = λ entries key. kept_known (answers_of entries) key }
