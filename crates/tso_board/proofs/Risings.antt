-- A sorted list with the elements of one that rises rises too.
use Rattle.std.proofs.Common.{◌≡◌, ℕ, suc, ◌<◌, ◌≤◌, List, [], ◌∷◌, sym, refl, ap, ◌∙◌, subst, arith}
use Rattle.std.specs.Prelude.{Contains, sum_by}
use Rattle.std.specs.List.Sorted.{IsNonDecreasingBy, IsPermutation}
use Rattle.std.proofs.lemmas.List.Elements.{All-contains, All-weaker, All-contains_itself}
use Rattle.std.proofs.lemmas.List.Sorted.{sum_by-IsPermutation}
use Rattle.std.proofs.lemmas.List.Sums.{sum_by-cons}
use mathlib.Core.Logic.{dite}
use native.Mathlib.Decide.{dec_le}
use Rattle.tso_model.specs.Lists.{total}
use Rattle.tso_model.specs.Ledger.{IsRisingBy}
use Rattle.tso_model.proofs.Basics.{in_head, in_tail}
use Rattle.tso_model.proofs.Codes.{hit, hit-is, hit-same, stands, weighs}
use Rattle.tso_model.proofs.Sorted.{one_key}

-- PERMUTATIONS
total_is : {A : Type 0} (f : A → ℕ) (xs : List A) → total f xs ≡ sum_by f xs
total_is f [] = refl
total_is f (x ∷ xs) = omega (arith, total_is f xs, sum_by-cons f x xs)

pub same_total : {A : Type 0} (xs ys : List A) → IsPermutation xs ys → (f : A → ℕ) → total f ys ≡ total f xs
same_total xs ys p f = total_is f ys ∙ sum_by-IsPermutation f xs ys p ∙ sym (total_is f xs)

module _ {A : Type 0} (key : A → ℕ) (code : A → List ℕ) (one : (x y : A) → code x ≡ code y → x ≡ y) where
  rising_once : (xs : List A) → IsRisingBy key xs → (x : A) → total (hit code one x) xs ≤ 1
  rising_once [] r x = omega arith
  rising_once (y ∷ ys) r x = dite (dec_le (hit code one x y) 0)
      (λ none. omega (arith, none, rising_once ys r.1 x))
      (λ here. let same : y ≡ x = hit-is code one x y (omega (arith, here)) in
      let is_one : hit code one x y ≡ 1 = ap (hit code one x) same ∙ hit-same code one x in
      dite (dec_le (total (hit code one x) ys) 0)
      (λ none. omega (arith, none, is_one))
      (λ more. absurd (omega (arith, All-contains (λ z. key y < key z) ys x r.0 (stands code one x ys (omega (arith, more))), ap key same))))

  pub rises_by : (ys : List A) → IsRisingBy key ys → (xs : List A) → IsNonDecreasingBy key xs → ((f : A → ℕ) → total f xs ≤ total f ys) → IsRisingBy key xs
  rises_by ys r [] sorted le = tt
  rises_by ys r (x ∷ xs) sorted le = (
    All-weaker (Contains xs) (λ y. key x < key y) (λ y h.
        let at_most : key x ≤ key y = omega (arith, sorted 0 (suc h.0) y (omega arith) (omega (arith, h.1)), ap key h.2) in
        dite (dec_le (key y) (key x))
        (λ le'. absurd (
        let same : x ≡ y = one_key key ys r x y (in_ys x (in_head x xs)) (in_ys y (in_tail x xs y h)) (omega (arith, at_most, le')) in
        omega (arith, le (hit code one x), rising_once ys r x, hit-same code one x, weighs code one x xs (subst (Contains xs) (sym same) h))))
        (λ gt. omega (arith, gt)))
        xs (All-contains_itself xs),
    rises_by ys r xs (λ i j d lt within. sorted (suc i) (suc j) d (omega (arith, lt)) (omega (arith, within))) (λ f. omega (arith, le f)),
  )
    where
      in_ys : (y : A) → Contains (x ∷ xs) y → Contains ys y
      in_ys y h = stands code one y ys (omega (arith, le (hit code one y), weighs code one y (x ∷ xs) h))
