-- What holds of the value that an asking ends in, whatever it hears.
use Rattle.std.proofs.Common.{refl, ◌≡◌, Bool, true, false, cond}
use Rattle.pd_state.specs.Asking.{Asking, Hearing, Point, ended, go_on, value_or, waits}

-- where it ended, the value has this
abbrev pub Ends : (A : Type 0) → (A → Type 0) → Point A → Type 0
Ends A P (ended value at) = P value
Ends A P (waits call) = Unit {0}

pub ends_on : (A B : Type 0) (P : A → Type 0) (Q : B → Type 0) (next : A → Asking B) (point : Point A) → Ends A P point → ((a : A) (at : Hearing) → P a → Ends B Q (next a at)) → Ends B Q (go_on next point)
ends_on A B P Q next (ended value at) h f = f value at h
ends_on A B P Q next (waits call) h f = tt

-- of any value
pub ends_any : (A : Type 0) (point : Point A) → Ends A (λ a. Unit {0}) point
ends_any A (ended value at) = tt
ends_any A (waits call) = tt

pub ends_map : (A : Type 0) (P Q : A → Type 0) (point : Point A) → ((a : A) → P a → Q a) → Ends A P point → Ends A Q point
ends_map A P Q (ended value at) f h = f value h
ends_map A P Q (waits call) f h = tt

-- the value, or another that has it
pub ends_or : (A : Type 0) (P : A → Type 0) (other : A) (point : Point A) → P other → Ends A P point → P (value_or other point)
ends_or A P other (ended value at) o h = h
ends_or A P other (waits call) o h = o

-- of a choice
pub ends_if : (A : Type 0) (P : A → Type 0) (b : Bool) (one other : Asking A) (at : Hearing) → (b ≡ true → Ends A P (one at)) → (b ≡ false → Ends A P (other at)) → Ends A P (cond b one other at)
ends_if A P true one other at h k = h refl
ends_if A P false one other at h k = k refl
