use Rattle.meta_store.proofs.Refines.{are_records}
use Rattle.meta_store.proofs.laws.all_records_are_handed_out.Goals as goal

pub returns : goal.returns
returns c = record { records = are_records }
