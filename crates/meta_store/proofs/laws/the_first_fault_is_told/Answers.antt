use Rattle.meta_store.proofs.Firsts.{old_first, conflict_next, limit_last}
use Rattle.meta_store.proofs.laws.the_first_fault_is_told.Goals as goal

pub returns : goal.returns
returns c = record { old_term = old_first; conflict = conflict_next; limit = limit_last }
