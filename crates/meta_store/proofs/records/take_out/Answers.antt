use Rattle.std.proofs.Common.{◌∙◌, sym, refl}
use Rattle.meta_store.proofs.Spots.{without_known, without_absent, known_at, absent_at}
use Rattle.meta_store.proofs.records.take_out.Goals as goal

pub returns-in-Ok-clause-value : goal.returns-in-Ok-clause-value
returns-in-Ok-clause-value c = c.remove.ensures.by_index.2 ∙ sym (without_known (known_at c.deref.ensures.value refl c.in-Ok.ensures.found))

pub returns-in-Err-clause-value : goal.returns-in-Err-clause-value
returns-in-Err-clause-value c = sym (without_absent (absent_at c.deref.ensures.value refl c.in-Err.ensures.absent))
