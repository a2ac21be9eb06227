-- The timestamps of a batch (pdpb, `TsoResponse`: the last timestamp and the count).
use Rattle.std.specs.Prelude.{ℕ, ◌+◌, ◌-◌, ◌≤◌}
use Rattle.pd_types.specs.declared.oracle.Batch.{Batch}

-- the first timestamp: the last less the count, plus one
abbrev pub first_of : Batch → ℕ
first_of batch = batch.last - batch.count + 1

-- the timestamp is one of the batch
pub record Holds (batch : Batch) (ts : ℕ) : Type 0 where
  pub from : first_of batch ≤ ts
  pub upto : ts ≤ batch.last
