use Rattle.meta_store.proofs.Verdicts.{old_noted, conflict_noted, limit_noted}
use Rattle.meta_store.proofs.laws.each_refused_call_is_an_entry.Goals as goal

pub returns : goal.returns
returns c = record { old_term = old_noted; conflict = conflict_noted; limit = limit_noted; memory = λ old new driver call same. same }
