use Rattle.std.proofs.Common.{sym, ◌∙◌}
use Rattle.store_table.proofs.EntryLemmas.{placed_new, rising_insert}
use Rattle.store_table.proofs.places.insert.Goals as goal

pub returns-clause-ok : goal.returns-clause-ok
returns-clause-ok c = c.in-Ok.ensures.items ∙ sym (placed_new c.args.entry c.requires.absent)

pub returns-clause-rising : goal.returns-clause-rising
returns-clause-rising c = rw c.in-Ok.ensures.items (rising_insert c.args.entry c.requires.rising c.requires.absent)
