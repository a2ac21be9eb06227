-- What is in a list, in the one that a function or a test makes of it, and in two lists one behind the other.
use Rattle.std.proofs.Common.{refl, ◌≡◌, Bool, true, false, cond, ◌⊎◌, inl, inr, List, [], ◌∷◌, ◌++◌, map, ap, sym, ◌∙◌, subst}
use Rattle.std.specs.List.{filter}

-- the one is in the list
abbrev pub In : (X : Type 0) → X → List X → Type 0
In X x [] = ⊥
In X x (y ∷ ys) = (x ≡ y) ⊎ In X x ys

pub in_left : (X : Type 0) (x : X) (xs ys : List X) → In X x xs → In X x (xs ++ ys)
in_left X x [] ys h = absurd h
in_left X x (y ∷ xs) ys (inl h) = inl h
in_left X x (y ∷ xs) ys (inr h) = inr (in_left X x xs ys h)

pub in_right : (X : Type 0) (x : X) (xs ys : List X) → In X x ys → In X x (xs ++ ys)
in_right X x [] ys h = h
in_right X x (y ∷ xs) ys h = inr (in_right X x xs ys h)

pub in_either : (X : Type 0) (x : X) (xs ys : List X) → In X x (xs ++ ys) → In X x xs ⊎ In X x ys
in_either X x [] ys h = inr h
in_either X x (y ∷ xs) ys (inl h) = inl (inl h)
in_either X x (y ∷ xs) ys (inr h) = elim (in_either X x xs ys h) [ inl k ↦ inl (inr k) | inr k ↦ inr k ]

pub in_map : (X Y : Type 0) (f : X → Y) (x : X) (xs : List X) → In X x xs → In Y (f x) (map f xs)
in_map X Y f x [] h = absurd h
in_map X Y f x (y ∷ xs) (inl h) = inl (ap f h)
in_map X Y f x (y ∷ xs) (inr h) = inr (in_map X Y f x xs h)

pub of_map : (X Y : Type 0) (f : X → Y) (y : Y) (xs : List X) → In Y y (map f xs) → (x : X) × In X x xs × (y ≡ f x)
of_map X Y f y [] h = absurd h
of_map X Y f y (x ∷ xs) (inl h) = (x, inl refl, h)
of_map X Y f y (x ∷ xs) (inr h) = let r = of_map X Y f y xs h in (r.0, inr r.1, r.2)

pub in_filter : (X : Type 0) (p : X → Bool) (x : X) (xs : List X) → In X x xs → p x ≡ true → In X x (filter p xs)
in_filter X p x [] h passes = absurd h
in_filter X p x (y ∷ xs) (inl h) passes = subst (λ (b : Bool). In X x (cond b (y ∷ filter p xs) (filter p xs))) (sym (ap p (sym h) ∙ passes)) (inl h)
in_filter X p x (y ∷ xs) (inr h) passes = by (p y) (in_filter X p x xs h passes)
  where
    by : (b : Bool) → In X x (filter p xs) → In X x (cond b (y ∷ filter p xs) (filter p xs))
    by true k = inr k
    by false k = k

pub of_filter : (X : Type 0) (p : X → Bool) (x : X) (xs : List X) → In X x (filter p xs) → In X x xs × (p x ≡ true)
of_filter X p x [] h = absurd h
of_filter X p x (y ∷ xs) h = by (p y) refl (of_filter X p x xs) h
  where
    by : (b : Bool) → p y ≡ b → (In X x (filter p xs) → In X x xs × (p x ≡ true)) → In X x (cond b (y ∷ filter p xs) (filter p xs)) → In X x (y ∷ xs) × (p x ≡ true)
    by true is rest (inl k) = (inl k, ap p k ∙ is)
    by true is rest (inr k) = let r = rest k in (inr r.0, r.1)
    by false is rest k = let r = rest k in (inr r.0, r.1)
