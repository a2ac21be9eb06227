-- Entries told apart by their numbers, and what stands in a list by sums.
use Rattle.std.proofs.Common.{◌≡◌, ℕ, ◌<◌, eqb, cond, List, [], ◌∷◌, sym, refl, ap, subst, arith, get_or}
use Rattle.std.specs.Prelude.{Contains}
use mathlib.Core.Logic.{dite}
use native.Mathlib.Decide.{dec_le}
use Rattle.pd_types.specs.declared.oracle.Batch.{Batch}
use Rattle.tso_model.specs.declared.entries.Claim.{Claim}
use Rattle.tso_model.specs.Lists.{total}
use Rattle.tso_model.proofs.Basics.{by_eq, in_head, in_tail, weight_le}

-- 1 where two lists of numbers are one
abbrev pub eqs : List ℕ → List ℕ → ℕ
eqs [] [] = 1
eqs [] (y ∷ ys) = 0
eqs (x ∷ xs) [] = 0
eqs (x ∷ xs) (y ∷ ys) = cond (eqb x y) (eqs xs ys) 0

pub eqs-same : (xs : List ℕ) → eqs xs xs ≡ 1
eqs-same [] = refl
eqs-same (x ∷ xs) = by_eq (λ b. cond b (eqs xs xs) 0 ≡ 1) x x (λ _. eqs-same xs) (λ ne. absurd (ne refl))

pub eqs-is : (xs ys : List ℕ) → 0 < eqs xs ys → xs ≡ ys
eqs-is [] [] h = refl
eqs-is [] (y ∷ ys) h = absurd (omega (arith, h))
eqs-is (x ∷ xs) [] h = absurd (omega (arith, h))
eqs-is (x ∷ xs) (y ∷ ys) h = by_eq (λ b. 0 < cond b (eqs xs ys) 0 → x ∷ xs ≡ y ∷ ys) x y (λ e z. λ i. e i ∷ eqs-is xs ys z i) (λ ne z. absurd (omega (arith, z))) h

module _ {A : Type 0} (code : A → List ℕ) (one : (x y : A) → code x ≡ code y → x ≡ y) where
  -- 1 where x is w
  pub hit : A → A → ℕ
  hit w x = eqs (code x) (code w)

  pub hit-same : (w : A) → hit w w ≡ 1
  unfolding hit
  hit-same w = eqs-same (code w)

  pub hit-is : (w x : A) → 0 < hit w x → x ≡ w
  unfolding hit
  hit-is w x h = one x w (eqs-is (code x) (code w) h)

  pub stands : (w : A) (xs : List A) → 0 < total (hit w) xs → Contains xs w
  stands w [] h = absurd (omega (arith, h))
  stands w (x ∷ xs) h = dite (dec_le (hit w x) 0)
      (λ none. in_tail x xs w (stands w xs (omega (arith, h, none))))
      (λ here. subst (λ y. Contains (y ∷ xs) w) (sym (hit-is w x (omega (arith, here)))) (in_head w xs))

  pub weighs : (w : A) (xs : List A) → Contains xs w → 0 < total (hit w) xs
  weighs w xs h = omega (arith, weight_le (hit w) xs w h, hit-same w)

abbrev pub claim_code : Claim → List ℕ
claim_code c = c.window.term ∷ c.window.driver ∷ c.window.lo ∷ c.window.hi ∷ c.at ∷ []

pub claim_one : (x y : Claim) → claim_code x ≡ claim_code y → x ≡ y
claim_one x y e = λ i. record { window = record { term = ap (λ l. get_or l 0 0) e i; driver = ap (λ l. get_or l 1 0) e i; lo = ap (λ l. get_or l 2 0) e i; hi = ap (λ l. get_or l 3 0) e i }; at = ap (λ l. get_or l 4 0) e i }

abbrev pub batch_code : Batch → List ℕ
batch_code b = b.term ∷ b.driver ∷ b.last ∷ b.count ∷ []

pub batch_one : (x y : Batch) → batch_code x ≡ batch_code y → x ≡ y
batch_one x y e = λ i. record { term = ap (λ l. get_or l 0 0) e i; driver = ap (λ l. get_or l 1 0) e i; last = ap (λ l. get_or l 2 0) e i; count = ap (λ l. get_or l 3 0) e i }
