use Rattle.meta_store.proofs.Verdicts.{old_refused, put_refused, delete_refused, new_refused, full_refused}
use Rattle.meta_store.proofs.laws.a_call_is_refused_by_what_stands_before_it.Goals as goal

pub returns : goal.returns
returns c = record { old_term = old_refused; put_conflict = put_refused; delete_conflict = delete_refused; new_key = new_refused; entries = full_refused }
