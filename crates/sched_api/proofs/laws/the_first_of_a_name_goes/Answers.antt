use Rattle.sched_api.proofs.LawLemmas.{here, later}
use Rattle.sched_api.proofs.laws.the_first_of_a_name_goes.Goals as goal

pub returns : goal.returns
returns c = record { here = here; later = later }
