use Rattle.pd_ctl.proofs.Named.{is_named, named_is}
use Rattle.pd_ctl.proofs.laws.the_most_fixed_words_decide.Goals as goal

pub returns : goal.returns
returns c = record { named = λ words verb. (named_is words verb, is_named words verb) }
