use Rattle.id_alloc.proofs.Ids.{ids_differ}
use Rattle.id_alloc.proofs.laws.no_id_is_taken_twice.Goals as goal

pub returns : goal.returns
returns c = record { distinct = ids_differ }
