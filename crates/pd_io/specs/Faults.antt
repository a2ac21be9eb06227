-- When a source or a sink may answer that it failed: only where its count of faults rose.
use Rattle.std.specs.Prelude.{ℕ, ◌+◌, ◌-◌, ◌^◌, ◌<◌, ◌≤◌, min, length, List, Result, OnErr, IfOk, IsErrOf}
use Rattle.pd_io.specs.declared.traits.PutFault.{PutFault}
use Rattle.pd_io.specs.declared.traits.PutFault.TheVariants.{Failed}

-- the count rose, or stands at its type's end
abbrev pub Rose : ℕ → ℕ → Type 0
Rose before now = min (before + 1) (2 ^ 64 - 1) ≤ now

-- the count never falls, and a read failed only where it rose
pub record HasReadCause {T E : Type 0} (before now : ℕ) (result : Result T E) : Type 0 where
  pub later : before ≤ now
  pub failed : OnErr result (Rose before now)

-- the count never falls, and a write failed, other than for memory, only where it rose
pub record HasWriteCause {T : Type 0} (before now : ℕ) (result : Result T PutFault) : Type 0 where
  pub later : before ≤ now
  pub failed : IsErrOf result Failed → Rose before now

-- a write took at least one byte, and no more than it was given
abbrev pub TakesSome : {E : Type 0} → Result ℕ E → List ℕ → Type 0
TakesSome r bytes = IfOk r (λ n. (0 < n) × (n ≤ length bytes))
