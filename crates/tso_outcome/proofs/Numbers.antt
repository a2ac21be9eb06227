-- Numbers that rise by one are distinct.
use Rattle.std.proofs.Common.{◌≡◌, ℕ, zero, suc, ◌+◌, ◌≤◌, List, [], ◌∷◌, ap, subst, ⊎_elim, arith}
use Rattle.std.specs.Prelude.{Contains, map}
use Rattle.tso_model.specs.Moves.{numbers_from}
use Rattle.tso_model.proofs.Basics.{in_nil, in_cons}
use Rattle.tso_outcome.proofs.Ended.{AreDistinctBy}
use Rattle.tso_outcome.proofs.Above.{to_map}

abbrev rest_or : List ℕ → List ℕ
rest_or [] = []
rest_or (x ∷ xs) = xs

abbrev head_or : ℕ → List ℕ → ℕ
head_or y [] = y
head_or y (x ∷ xs) = x

pub from_low : (a n m : ℕ) → Contains (numbers_from a n) m → a ≤ m
from_low a zero m h = in_nil m h
from_low a (suc n) m h = ⊎_elim (λ (e : a ≡ m). omega (arith, e)) (λ (z : Contains (numbers_from (a + 1) n) m). omega (arith, from_low (a + 1) n m z)) (in_cons a (numbers_from (a + 1) n) m h)

pub distinct_from : {A : Type 0} (number : A → ℕ) (xs : List A) (a n : ℕ) → map number xs ≡ numbers_from a n → AreDistinctBy number xs
distinct_from number [] a n e = tt
distinct_from number (x ∷ xs) a zero e = absurd (cc e)
distinct_from number (x ∷ xs) a (suc n) e =
    let rest : map number xs ≡ numbers_from (a + 1) n = ap rest_or e in
    let first : number x ≡ a = ap (head_or a) e in
    ((λ y h same. absurd (omega (arith, first, same, from_low (a + 1) n (number y) (subst (λ l. Contains l (number y)) rest (to_map number xs y h))))), distinct_from number xs (a + 1) n rest)
