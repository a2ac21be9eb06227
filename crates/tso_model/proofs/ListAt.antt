-- Lists read by `get_elem?` after a write or at a new end.
use Rattle.std.proofs.Common.{◌≡◌, ◌≢◌, ◌⊎◌, ℕ, zero, suc, List, [], ◌∷◌, ◌++◌, set, sym, refl, ap, inl, inr, ⊎_elim, arith}
use mathlib.Core.Option.{some, some-injective, some-ne-none}
use lib.ListN.{get_elem?}

module _ {A : Type 0} where
  -- what stands at j after a write at i is what was written, or stood there before
  pub at_set : (xs : List A) (i j : ℕ) (a b : A) → get_elem? (set xs i a) j ≡ some b → ((j ≡ i) × (a ≡ b)) ⊎ ((j ≢ i) × (get_elem? xs j ≡ some b))
  at_set [] i j a b found = absurd (some-ne-none b (sym found))
  at_set (x ∷ xs) zero zero a b found = inl (refl, some-injective a b found)
  at_set (x ∷ xs) zero (suc j) a b found = inr ((λ same. omega arith), found)
  at_set (x ∷ xs) (suc i) zero a b found = inr ((λ same. omega arith), found)
  at_set (x ∷ xs) (suc i) (suc j) a b found = ⊎_elim (λ here. inl (ap suc here.0, here.1)) (λ other. let apart = other.0 in inr ((λ same. apart (omega arith)), other.1)) (at_set xs i j a b found)

  -- a write at i leaves what stands elsewhere
  pub set_else : (xs : List A) (i j : ℕ) (a : A) → j ≢ i → get_elem? (set xs i a) j ≡ get_elem? xs j
  set_else [] i j a apart = refl
  set_else (x ∷ xs) zero zero a apart = absurd (apart refl)
  set_else (x ∷ xs) zero (suc j) a apart = refl
  set_else (x ∷ xs) (suc i) zero a apart = refl
  set_else (x ∷ xs) (suc i) (suc j) a apart = set_else xs i j a (λ same. apart (ap suc same))

  -- what stands in a list with a new last element stood there before, or is that element
  pub at_snoc : (xs : List A) (a b : A) (j : ℕ) → get_elem? (xs ++ a ∷ []) j ≡ some b → (get_elem? xs j ≡ some b) ⊎ (a ≡ b)
  at_snoc [] a b zero found = inr (some-injective a b found)
  at_snoc [] a b (suc j) found = absurd (some-ne-none b (sym found))
  at_snoc (x ∷ xs) a b zero found = inl found
  at_snoc (x ∷ xs) a b (suc j) found = at_snoc xs a b j found
