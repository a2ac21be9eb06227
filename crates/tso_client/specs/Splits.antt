-- What it means that a batch is split in two (own choice).
use Rattle.std.specs.Prelude.{◌≡◌, ◌⊎◌, ◌↔◌, ℕ, ◌+◌, ◌<◌}
use Rattle.pd_types.specs.declared.oracle.Batch.{Batch}
use Rattle.pd_types.specs.Batch.{Holds}

-- Two batches are together a third: they are of its term and driver; each of its timestamps is in one of them, and they have no others; those of the first are below those of the second; and their counts add up to its own
pub record AreParts (whole first rest : Batch) : Type 0 where
  pub term : (first.term ≡ whole.term) × (rest.term ≡ whole.term)
  pub driver : (first.driver ≡ whole.driver) × (rest.driver ≡ whole.driver)
  pub stamps : (ts : ℕ) → Holds whole ts ↔ (Holds first ts ⊎ Holds rest ts)
  pub apart : (ts us : ℕ) → Holds first ts → Holds rest us → ts < us
  pub counts : first.count + rest.count ≡ whole.count
