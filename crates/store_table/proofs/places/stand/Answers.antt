use Rattle.store_table.proofs.EntryLemmas.{state_found, state_absent}
use Rattle.store_table.proofs.places.stand.Goals as goal

pub returns-in-Ok-clause-state : goal.returns-in-Ok-clause-state
returns-in-Ok-clause-state c = state_found c.index-entries-place.result c.in-Ok.ensures.found

pub returns-in-Err-clause-unknown : goal.returns-in-Err-clause-unknown
returns-in-Err-clause-unknown c = state_absent c.in-Err.ensures.absent
