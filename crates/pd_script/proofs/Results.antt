-- What is known of a result that is fine.
use Rattle.std.proofs.Common.{◌≡◌, ◌≤◌, ℕ, Bool, true, false, cond, nat_le, Option, Some, None, refl, sym, ap, subst, arith}
use Rattle.std.specs.Prelude.{Result, Ok, Err, ◌&&◌}
use Rattle.std.proofs.lemmas.Bool.Decides.{nat_tests}
use Rattle.pd_lines.specs.Words.{and_then}
use Rattle.pd_script.specs.Places.{least, most, within}
use Rattle.pd_script.specs.declared.place.Place.{Place}
use Rattle.pd_script.specs.declared.refusal.Reason.{Reason}
use Rattle.pd_script.specs.declared.refusal.Reason.TheVariants.{BadNumber, OutOfRange}

-- results
abbrev or_else : {A B : Type 0} → A → Result A B → A
or_else a (Ok x) = x
or_else a (Err e) = a

abbrev IsFine : {A B : Type 0} → Result A B → Type 0
IsFine (Ok x) = Unit {0}
IsFine (Err e) = ⊥

pub no_fine : {A B C : Type 0} (e : B) (x : A) → (let r : Result A B = Err e in r) ≡ Ok x → C
no_fine e x is = absurd (subst IsFine (sym is) tt)

pub same_ok : {A B : Type 0} (x y : A) → (let r : Result A B = Ok x in r) ≡ Ok y → x ≡ y
same_ok x y is = ap (or_else x) is

-- a number in range
pub record InPlace (p : Place) (n : ℕ) : Type 0 where
  pub low : least p ≤ n
  pub high : n ≤ most p

within_range : (p : Place) (n m : ℕ) (a b : Bool) → a ≡ nat_le (least p) n → b ≡ nat_le n (most p) → cond {A = Result ℕ Reason} (a && b) (Ok n) (Err OutOfRange) ≡ Ok m → InPlace p m
within_range p n m true true low high is = subst (λ (x : ℕ). InPlace p x) (same_ok n m is) (record { low = grind (arith, nat_tests, low); high = grind (arith, nat_tests, high) })
within_range p n m true false low high is = no_fine OutOfRange m is
within_range p n m false b low high is = no_fine OutOfRange m is

pub in_place : (p : Place) (o : Option ℕ) (n : ℕ) → within p o ≡ Ok n → InPlace p n
in_place p None n is = no_fine BadNumber n is
in_place p (Some m) n is = within_range p m n (nat_le (least p) m) (nat_le m (most p)) refl refl is

-- what was read in a row
pub then_read : {A B : Type 0} (r : Result A Reason) (next : A → Result B Reason) (b : B) → and_then r next ≡ Ok b → (a : A) × (r ≡ Ok a) × (next a ≡ Ok b)
then_read (Ok a) next b is = (a, refl, is)
then_read (Err reason) next b is = no_fine reason b is
