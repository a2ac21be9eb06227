use Rattle.std.proofs.Common.{sym}
use Rattle.store_table.specs.Calls.{in_state}
use Rattle.store_table.proofs.EntryLemmas.{changed_known}
use Rattle.store_table.proofs.places.set_state.Goals as goal

pub returns-clause-value : goal.returns-clause-value
returns-clause-value c id stands = sym (changed_known (in_state c.args.state) c.index-entries-place.result stands)
