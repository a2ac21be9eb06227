-- What a list has that was made of another.
use Rattle.std.proofs.Common.{refl, ◌≡◌, inl, inr, ℕ, zero, suc, Bool, true, false, cond, eqb, List, [], ◌∷◌, filter, map, reverse, sym, subst, arith}
use Rattle.std.specs.Prelude.{All, Contains, flat_map}
use Rattle.std.proofs.lemmas.Bool.{eqb-false}
use Rattle.std.proofs.lemmas.List.{reverse-append}
use Rattle.std.proofs.lemmas.List.Elements.{All-contains_itself, All-weaker, Contains-append_cases, Contains-append_left, Contains-append_right}

pub none_in : {A B : Type 0} (x : A) → Contains [] x → B
none_in x has = absurd (let low = has.1 in omega (arith, low))

-- the first element, and one behind it
pub at_first : {A : Type 0} (x : A) (xs : List A) → Contains (x ∷ xs) x
at_first x xs = (0, omega arith, refl)

pub behind : {A : Type 0} (x y : A) (xs : List A) → Contains xs y → Contains (x ∷ xs) y
behind x y xs has = (suc has.0, (let low = has.1 in omega (arith, low)), has.2)

-- what holds of whatever the list has
pub each_of : {A : Type 0} (P : A → Type 0) (xs : List A) → ((x : A) → Contains xs x → P x) → All P xs
each_of P xs each = All-weaker (Contains xs) P each xs (All-contains_itself xs)

pub from_map : {A B : Type 0} (f : A → B) (xs : List A) (y : B) → Contains (map f xs) y → (x : A) × Contains xs x × (y ≡ f x)
from_map f [] y has = none_in y has
from_map f (x ∷ xs) y (zero, low, same) = (x, at_first x xs, sym same)
from_map f (x ∷ xs) y (suc k, low, same) = let rest = from_map f xs y (k, omega (arith, low), same) in (rest.0, behind x rest.0 xs rest.1, rest.2)

-- a list that is turned round
pub in_reverse : {A : Type 0} (xs : List A) (x : A) → Contains xs x → Contains (reverse xs) x
in_reverse [] x has = has
in_reverse (y ∷ xs) x (zero, low, same) =
    subst (λ (zs : List _). Contains zs x) (sym (reverse-append (y ∷ []) xs)) (Contains-append_right (reverse xs) (y ∷ []) x (0, omega arith, same))
in_reverse (y ∷ xs) x (suc k, low, same) =
    subst (λ (zs : List _). Contains zs x) (sym (reverse-append (y ∷ []) xs)) (Contains-append_left (reverse xs) (y ∷ []) x (in_reverse xs x (k, omega (arith, low), same)))

-- those that pass a test
module _ {A : Type 0} (test : A → Bool) where
  front : (b : Bool) (x y : A) (xs : List A) → test x ≡ b → (Contains (filter test xs) y → Contains xs y × (test y ≡ true)) → Contains (cond b (x ∷ filter test xs) (filter test xs)) y → Contains (x ∷ xs) y × (test y ≡ true)
  front true x y xs is rest (zero, low, same) = ((0, omega arith, same), subst (λ (z : A). test z ≡ true) same is)
  front true x y xs is rest (suc k, low, same) = let r = rest (k, omega (arith, low), same) in (behind x y xs r.0, r.1)
  front false x y xs is rest has = let r = rest has in (behind x y xs r.0, r.1)

  pub from_filter : (xs : List A) (y : A) → Contains (filter test xs) y → Contains xs y × (test y ≡ true)
  from_filter [] y has = none_in y has
  from_filter (x ∷ xs) y has = front (test x) x y xs refl (from_filter xs y) has

-- the lists of all elements, one behind the other
module _ {A B : Type 0} (f : A → List B) where
  pub from_flat : (xs : List A) (y : B) → Contains (flat_map f xs) y → (x : A) × Contains xs x × Contains (f x) y
  from_flat [] y has = none_in y has
  from_flat (x ∷ xs) y has = elim (Contains-append_cases (f x) (flat_map f xs) y has) [
    | inl own ↦ (x, at_first x xs, own)
    | inr later ↦ (let rest = from_flat xs y later in (rest.0, behind x rest.0 xs rest.1, rest.2))
  ]

  pub to_flat : (xs : List A) (x : A) (y : B) → Contains xs x → Contains (f x) y → Contains (flat_map f xs) y
  to_flat [] x y has own = none_in x has
  to_flat (z ∷ xs) x y (zero, low, same) own = Contains-append_left (f z) (flat_map f xs) y (subst (λ (a : A). Contains (f a) y) (sym same) own)
  to_flat (z ∷ xs) x y (suc k, low, same) own = Contains-append_right (f z) (flat_map f xs) y (to_flat xs x y (k, omega (arith, low), same) own)

-- equal numbers are found equal
pub same_eqb : (a b : ℕ) → a ≡ b → eqb a b ≡ true
same_eqb a b same = by (eqb a b) refl
  where
    by : (t : Bool) → eqb a b ≡ t → t ≡ true
    by true is = refl
    by false is = absurd (eqb-false a b is same)
