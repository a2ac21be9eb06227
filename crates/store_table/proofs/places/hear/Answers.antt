use Rattle.std.proofs.Common.{sym}
use Rattle.store_table.specs.Calls.{heard}
use Rattle.store_table.proofs.EntryLemmas.{changed_known}
use Rattle.store_table.proofs.places.hear.Goals as goal

pub returns-clause-value : goal.returns-clause-value
returns-clause-value c id stands = rw c.later_of.ensures.value (sym (changed_known (heard c.args.moment) c.index-entries-place.result stands))
