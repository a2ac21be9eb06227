-- Rising numbers, one after another.
use Rattle.std.proofs.Common.{◌≡◌, ℕ, zero, suc, ◌+◌, ◌<◌, List, [], ◌∷◌, ◌++◌, length, get_or, map, refl, ap, ◌∙◌, arith}
use Rattle.std.proofs.lemmas.List.{map-append}
use Rattle.tso_model.specs.Moves.{numbers_from}

pub numbers_length : (a n : ℕ) → length (numbers_from a n) ≡ n
numbers_length a zero = refl
numbers_length a (suc n) = omega (arith, numbers_length (a + 1) n)

pub numbers_at : (a n i : ℕ) → i < n → get_or (numbers_from a n) i 0 ≡ a + i
numbers_at a zero i within = absurd (omega arith)
numbers_at a (suc n) zero within = omega arith
numbers_at a (suc n) (suc i) within = omega (arith, numbers_at (a + 1) n i (omega arith))

-- the last number
pub numbers_more : (a n : ℕ) → numbers_from a (suc n) ≡ numbers_from a n ++ (a + n) ∷ []
numbers_more a zero = ap (λ (m : ℕ). m ∷ []) (let e : a ≡ a + 0 = omega arith in e)
numbers_more a (suc n) = ap (λ (l : List ℕ). a ∷ l) (numbers_more (a + 1) n) ∙ ap (λ (m : ℕ). a ∷ (numbers_from (a + 1) n ++ m ∷ [])) (let e : a + 1 + n ≡ a + suc n = omega arith in e)

-- one more number, from 1 on
pub map_numbers : {B : Type 0} (f : ℕ → B) (n : ℕ) → map f (numbers_from 1 (n + 1)) ≡ map f (numbers_from 1 n) ++ f (n + 1) ∷ []
map_numbers f n =
    let e : n + 1 ≡ suc n = omega arith in
    let o : 1 + n ≡ n + 1 = omega arith in
    ap (λ (m : ℕ). map f (numbers_from 1 m)) e ∙ ap (λ (l : List ℕ). map f l) (numbers_more 1 n) ∙ map-append f (numbers_from 1 n) ((1 + n) ∷ []) ∙ ap (λ (m : ℕ). map f (numbers_from 1 n) ++ f m ∷ []) o
