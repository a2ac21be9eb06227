-- Lists by rising numbers, one by one.
use Rattle.std.proofs.Common.{◌≡◌, ℕ, zero, suc, ◌+◌, ◌-◌, ◌<◌, List, [], ◌∷◌, ◌++◌, length, sym, refl, ap, ◌∙◌, arith}
use Rattle.std.specs.Prelude.{map}
use Rattle.std.proofs.lemmas.List.{map-append}
use Rattle.tso_model.specs.Moves.{numbers_from}
use Rattle.tso_model.proofs.Numbers.{numbers_more}

module _ {A B : Type 0} (view : A → B) (f : ℕ → B) where
  abbrev rest_or : List B → List B
  rest_or [] = []
  rest_or (x ∷ xs) = xs

  abbrev head_or : B → List B → B
  head_or y [] = y
  head_or y (x ∷ xs) = x

  -- the first of a row, and the rest of it
  pub next_is : (a n : ℕ) (x : A) (xs : List A) → map view (x ∷ xs) ≡ map f (numbers_from a n) → (0 < n) × (view x ≡ f a) × (map view xs ≡ map f (numbers_from (a + 1) (n - 1)))
  next_is a zero x xs e = absurd (cc e)
  next_is a (suc n) x xs e = (omega arith, ap (head_or (view x)) e, ap rest_or e ∙ ap (λ (m : ℕ). map f (numbers_from (a + 1) m)) (let s : n ≡ suc n - 1 = omega arith in s))

-- one more worker, with the next number
pub numbered : {A : Type 0} (number : A → ℕ) (old new : List A) (x : A) (n : ℕ) → new ≡ old ++ x ∷ [] → map number old ≡ numbers_from 1 n → number x ≡ n + 1 → map number new ≡ numbers_from 1 (n + 1)
numbered number old new x n e before one = ap (map number) e ∙ map-append number old (x ∷ []) ∙ (λ i. before i ++ one i ∷ []) ∙ ap (λ (m : ℕ). numbers_from 1 n ++ m ∷ []) (let s : n + 1 ≡ 1 + n = omega arith in s) ∙ sym (numbers_more 1 n) ∙ ap (numbers_from 1) (let s : suc n ≡ n + 1 = omega arith in s)

pub row_length : {B : Type 0} (f : ℕ → B) (a n : ℕ) → length (map f (numbers_from a n)) ≡ n
row_length f a zero = refl
row_length f a (suc n) = omega (arith, row_length f (a + 1) n)

pub rows_length : {A B : Type 0} (view : A → B) (xs : List A) → length (map view xs) ≡ length xs
rows_length view [] = refl
rows_length view (x ∷ xs) = omega (arith, rows_length view xs)
