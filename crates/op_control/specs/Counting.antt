-- How many of an operator's steps charge one bucket. Private contracts alone cite this.
use Rattle.std.specs.Prelude.{ℕ, ◌+◌, ◌&&◌, ◌==◌, Bool, true, false, List, [], ◌∷◌, if◌then◌else◌, Option, Some, None}
use Rattle.pd_types.specs.declared.step.Step.{Step}
use Rattle.store_limit.specs.declared.limits.LimitKind.{LimitKind}
use Rattle.store_limit.specs.declared.limits.LimitKind.TheVariants as kinds
use Rattle.op_control.specs.Charging.{charge_of}

-- both are of one kind
abbrev pub same_kind : LimitKind → LimitKind → Bool
same_kind kinds.AddPeer kinds.AddPeer = true
same_kind kinds.RemovePeer kinds.RemovePeer = true
same_kind _ _ = false

-- the charge is of that bucket
abbrev pub is_same : LimitKind → ℕ → Option (LimitKind × ℕ) → Bool
is_same kind store None = false
is_same kind store (Some charge) = same_kind kind charge.0 && charge.1 == store

-- how many of the steps charge that bucket
abbrev pub count_same : LimitKind → ℕ → List Step → ℕ
count_same kind store [] = 0
count_same kind store (step ∷ steps) = if is_same kind store (charge_of step) then count_same kind store steps + 1 else count_same kind store steps
