use Rattle.std.proofs.Common.{sym}
use Rattle.store_table.proofs.EntryLemmas.{placed_known}
use Rattle.store_table.proofs.places.replace.Goals as goal

pub returns-clause-value : goal.returns-clause-value
returns-clause-value c = sym (placed_known c.args.entry c.requires.known)
