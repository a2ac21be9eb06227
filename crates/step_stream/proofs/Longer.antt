-- The longer of two lists.
use Rattle.std.proofs.Common.{◌≡◌, ◌≤◌, ◌⊎◌, inl, inr, Bool, true, false, cond, List, length, nat_lt, refl, arith}
use Rattle.std.proofs.lemmas.Bool.Decides.{nat_tests}
use Rattle.pd_types.specs.declared.step.StepMsg.{StepMsg}
use Rattle.step_stream.specs.Streams.{longer}

pub own : (one other : List StepMsg) → length one ≤ length (longer one other)
own one other = by (nat_lt (length one) (length other)) refl
  where
    by : (t : Bool) → nat_lt (length one) (length other) ≡ t → length one ≤ length (cond t other one)
    by true is = grind (arith, nat_tests, is)
    by false is = omega arith

pub met : (one other : List StepMsg) → length other ≤ length (longer one other)
met one other = by (nat_lt (length one) (length other)) refl
  where
    by : (t : Bool) → nat_lt (length one) (length other) ≡ t → length other ≤ length (cond t other one)
    by true is = omega arith
    by false is = grind (arith, nat_tests, is)

pub either : (one other : List StepMsg) → (longer one other ≡ one) ⊎ (longer one other ≡ other)
either one other = by (nat_lt (length one) (length other))
  where
    by : (t : Bool) → (cond t other one ≡ one) ⊎ (cond t other one ≡ other)
    by true = inr refl
    by false = inl refl
