use Rattle.std.proofs.Common.{refl}
use Rattle.meta_store.proofs.laws.one_verdict_accepts.Goals as goal

pub returns : goal.returns
returns c = record { accepted = λ revision. refl; old_term = λ fence. refl; conflict = λ found. refl; limit = refl }
