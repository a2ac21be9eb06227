-- Places in lists, of what was found there.
use Rattle.std.proofs.Common.{◌≡◌, sym, refl, subst, ℕ, suc, ◌+◌, ◌<◌, Bool, true, false, cond, ◌||◌, List, [], ◌∷◌, length, arith, Some, ◌⊎◌, inl, inr, Contains}
use Rattle.std.proofs.lemmas.Bool.{cases_eq, true≢false}
use Rattle.std.proofs.lemmas.Option.{slice_get_read, slice_get_within, get_or_from_slice_get}
use Rattle.std.specs.List.{slice_get, find, list_any}

last : (n k : ℕ) → k < n + 1 → (k ≡ n) ⊎ (k ≡ n → ⊥) → (k < n) ⊎ (k ≡ n)
last n k low (inl e) = inr e
last n k low (inr other) = inl (omega arith)

pub below : (n k : ℕ) → k < n + 1 → (k < n) ⊎ (k ≡ n)
below n k low = last n k low (cases_eq k n)

pub some_same : {A : Type 0} (a b : A) → Some a ≡ Some b → a ≡ b
some_same {A} a b e = cc

-- where a find found it
pub record IsFoundAt {A : Type 0} (p : A → Bool) (xs : List A) : Type 0 where
  pub place : ℕ
  pub one : A
  pub at : slice_get xs place ≡ Some one
  pub passes : p one ≡ true

behind : {A : Type 0} (p : A → Bool) (x : A) (xs : List A) → IsFoundAt p xs → IsFoundAt p (x ∷ xs)
behind {A} p x xs found = record { place = suc found.place; one = found.one; at = found.at; passes = found.passes }

any_by : {A : Type 0} (p : A → Bool) (x : A) (xs : List A) → (list_any p xs ≡ true → IsFoundAt p xs) → (b : Bool) → p x ≡ b → cond b true (list_any p xs) ≡ true → IsFoundAt p (x ∷ xs)
any_by {A} p x xs rest true here h = record { place = 0; one = x; at = refl; passes = here }
any_by {A} p x xs rest false here h = behind p x xs (rest h)

shown : (b c : Bool) → (b || c) ≡ true → cond b true c ≡ true
shown true c h = refl
shown false c h = h

pub any_at : {A : Type 0} (p : A → Bool) (xs : List A) → list_any p xs ≡ true → IsFoundAt p xs
any_at {A} p [] h = absurd (true≢false (sym h))
any_at {A} p (x ∷ xs) h = any_by p x xs (any_at p xs) (p x) refl (shown (p x) (list_any p xs) h)

-- where a find found this one
pub record StandsAt {A : Type 0} (p : A → Bool) (xs : List A) (one : A) : Type 0 where
  pub place : ℕ
  pub at : slice_get xs place ≡ Some one
  pub passes : p one ≡ true

further : {A : Type 0} (p : A → Bool) (x : A) (xs : List A) (one : A) → StandsAt p xs one → StandsAt p (x ∷ xs) one
further {A} p x xs one found = record { place = suc found.place; at = found.at; passes = found.passes }

find_by : {A : Type 0} (p : A → Bool) (x one : A) (xs : List A) → (find p xs ≡ Some one → StandsAt p xs one) → (b : Bool) → p x ≡ b → cond b (Some x) (find p xs) ≡ Some one → StandsAt p (x ∷ xs) one
find_by {A} p x one xs rest true here h = record { place = 0; at = h; passes = subst (λ (y : A). p y ≡ true) (some_same x one h) here }
find_by {A} p x one xs rest false here h = further p x xs one (rest h)

pub find_at : {A : Type 0} (p : A → Bool) (xs : List A) (one : A) → find p xs ≡ Some one → StandsAt p xs one
find_at {A} p [] one h = absurd (cc)
find_at {A} p (x ∷ xs) one h = find_by p x one xs (find_at p xs one) (p x) refl h

pub contains_at : {A : Type 0} (xs : List A) (x : A) → Contains xs x → (k : ℕ) × (slice_get xs k ≡ Some x)
contains_at {A} xs x held = (held.0, slice_get_read xs (length xs) held.0 x refl held.1 (sym held.2))

pub at_contains : {A : Type 0} (xs : List A) (k : ℕ) (x : A) → slice_get xs k ≡ Some x → Contains xs x
at_contains {A} xs k x h = (k, slice_get_within xs k x h, get_or_from_slice_get xs k x x h)
