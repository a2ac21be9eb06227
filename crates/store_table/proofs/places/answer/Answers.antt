use Rattle.store_table.proofs.EntryLemmas.{entry_found}
use Rattle.store_table.proofs.places.answer.Goals as goal

pub returns-clause-value : goal.returns-clause-value
returns-clause-value c =
    rw (entry_found c.index-known.result.now c.requires.known) (rw (← c.index-known.ensures, ← c.later_of.ensures.value) c.replace.ensures.value)
