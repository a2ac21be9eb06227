-- What a list has, and what a part of it keeps.
use Rattle.std.proofs.Common.{refl, ◌≡◌, zero, suc, Bool, true, false, cond, List, [], ◌∷◌, ap, sym, ◌∙◌, arith, subst, ◌⊎◌, inl, inr}
use Rattle.std.proofs.lemmas.Bool.{true≢false}
use Rattle.std.proofs.lemmas.List.Elements.{All-cons, All-nil}
use Rattle.std.specs.List.{Contains, filter, All, AllPairs}

pub contains_none : {X : Type 0} (y : X) → Contains [] y → ⊥
contains_none y (k, low, same) = omega arith

pub contains_head : {X : Type 0} (x : X) (xs : List X) → Contains (x ∷ xs) x
contains_head x xs = (0, omega arith, refl)

pub contains_here : {X : Type 0} (x y : X) (xs : List X) → x ≡ y → Contains (x ∷ xs) y
contains_here x y xs same = (0, omega arith, same)

pub contains_tail : {X : Type 0} (x y : X) (xs : List X) → Contains xs y → Contains (x ∷ xs) y
contains_tail x y xs (k, low, same) = (suc k, omega arith, same)

pub contains_cases : {X : Type 0} (x y : X) (xs : List X) → Contains (x ∷ xs) y → (x ≡ y) ⊎ Contains xs y
contains_cases x y xs (zero, low, same) = inl same
contains_cases x y xs (suc k, low, same) = inr (k, omega arith, same)

pub contains_all : {X : Type 0} (P : X → Type 0) (y : X) (xs : List X) → All P xs → Contains xs y → P y
contains_all P y xs all (k, low, same) = subst P same (all k y low)

pub all_contains : {X : Type 0} (P : X → Type 0) (xs : List X) → ((y : X) → Contains xs y → P y) → All P xs
all_contains P [] each = All-nil P
all_contains P (x ∷ xs) each =
    All-cons P x xs (each x (contains_head x xs)) (all_contains P xs (λ y there. each y (contains_tail x y xs there)))

pub kept_from : {X : Type 0} (p : X → Bool) (y : X) (xs : List X) → Contains (filter p xs) y → Contains xs y × (p y ≡ true)
kept_from p y [] h = absurd (contains_none y h)
kept_from p y (x ∷ xs) h = by (p x) refl h (kept_from p y xs)
  where
    back : Contains xs y × (p y ≡ true) → Contains (x ∷ xs) y × (p y ≡ true)
    back k = (contains_tail x y xs k.0, k.1)

    split : p x ≡ true → (x ≡ y) ⊎ Contains (filter p xs) y → (Contains (filter p xs) y → Contains xs y × (p y ≡ true)) → Contains (x ∷ xs) y × (p y ≡ true)
    split passes (inl here) rest = (contains_here x y xs here, subst (λ z. p z ≡ true) here passes)
    split passes (inr there) rest = back (rest there)

    by : (t : Bool) → p x ≡ t → Contains (cond t (x ∷ filter p xs) (filter p xs)) y → (Contains (filter p xs) y → Contains xs y × (p y ≡ true)) → Contains (x ∷ xs) y × (p y ≡ true)
    by true passes k rest = split passes (contains_cases x y (filter p xs) k) rest
    by false fails k rest = back (rest k)

pub kept_old : {X : Type 0} (p : X → Bool) (y : X) (xs : List X) → Contains xs y → p y ≡ true → Contains (filter p xs) y
kept_old p y [] h passes = absurd (contains_none y h)
kept_old p y (x ∷ xs) h passes = by (p x) refl (contains_cases x y xs h) (λ there. kept_old p y xs there passes)
  where
    by : (t : Bool) → p x ≡ t → (x ≡ y) ⊎ Contains xs y → (Contains xs y → Contains (filter p xs) y) → Contains (cond t (x ∷ filter p xs) (filter p xs)) y
    by true is (inl here) rest = contains_here x y (filter p xs) here
    by true is (inr there) rest = contains_tail x y (filter p xs) (rest there)
    by false is (inl here) rest = absurd (true≢false (sym passes ∙ ap p (sym here) ∙ is))
    by false is (inr there) rest = rest there
