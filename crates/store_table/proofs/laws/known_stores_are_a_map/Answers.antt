use Rattle.store_table.proofs.MapLemmas.{entry_placed, entry_others, entry_changed, entry_kept}
use Rattle.store_table.proofs.laws.known_stores_are_a_map.Goals as goal

pub returns-clause-placed : goal.returns-clause-placed
returns-clause-placed c = entry_placed

pub returns-clause-others : goal.returns-clause-others
returns-clause-others c = entry_others

pub returns-clause-changed : goal.returns-clause-changed
returns-clause-changed c = entry_changed

pub returns-clause-kept : goal.returns-clause-kept
returns-clause-kept c = entry_kept
