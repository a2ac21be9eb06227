use Rattle.std.proofs.Common.{refl}
use Rattle.balance_sched.proofs.LawLemmas.{kept_ids, kept_roles}
use Rattle.balance_sched.proofs.laws.a_move_keeps_the_rest.Goals as goal

pub returns : goal.returns
returns c = record { ids = λ move beat. kept_ids move beat.region.peers; roles = λ move beat. kept_roles move beat.region.peers; leader = λ move beat. refl; region = λ move beat. refl }
