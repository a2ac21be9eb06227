-- Where a window and a batch go in the lists of a run.
use Rattle.std.proofs.Common.{◌≡◌, ℕ, zero, suc, ◌-◌, ◌<◌, ◌≤◌, true, false, List, [], ◌∷◌, length, get_or, set, leb, cond, ◌++◌, refl, sym, ap, ◌∙◌, arith}
use Rattle.std.proofs.lemmas.Bool.Decides.{nat_tests}
use Rattle.std.specs.List.Sorted.{IsNonDecreasingBy, IsPartitionPoint}
use Rattle.std.specs.List.{insert}
use Rattle.std.specs.Prelude.{nat_le}
use Rattle.pd_types.specs.declared.oracle.Batch.{Batch}
use Rattle.pd_types.specs.declared.oracle.Window.{Window}
use Rattle.tso_model.specs.Ledger.{longer_last, place}
use Rattle.tso_model.specs.Steps.{saved_window}
use Rattle.tso_model.proofs.Basics.{by_lt}
use Rattle.tso_core.proofs.Places.{get_any}

-- tests of two numbers
test_le : (m n : ℕ) → m ≤ n → leb m n ≡ true
test_le m n most = grind (arith, nat_tests)

below_test : (m n : ℕ) → leb m n ≡ false → m ≤ n → ⊥
below_test m n test most = grind (arith, nat_tests)

above_test : (m n : ℕ) → leb m n ≡ true → n < m → ⊥
above_test m n test less = grind (arith, nat_tests)

longer_at : (hi : ℕ) (ws : List Window) (i : ℕ) (w : Window) → length ws ≡ suc i → w ≡ get_or ws i w → set ws i (saved_window hi w) ≡ longer_last hi ws
longer_at hi [] i w len is = absurd (omega arith)
longer_at hi (x ∷ []) zero w len is = ap (λ (u : Window). saved_window hi u ∷ []) is
longer_at hi (x ∷ []) (suc i) w len is = absurd (omega arith)
longer_at hi (x ∷ y ∷ ys) zero w len is = absurd (omega arith)
longer_at hi (x ∷ y ∷ ys) (suc i) w len is = ap (λ (us : List Window). x ∷ us) (longer_at hi (y ∷ ys) i w (omega arith) is)

-- the last window made longer
pub longer_set : (hi : ℕ) (ws : List Window) (d : Window) → 0 < length ws → set ws (length ws - 1) (saved_window hi (get_or ws (length ws - 1) d)) ≡ longer_last hi ws
longer_set hi ws d some = let w : Window = get_or ws (length ws - 1) d in longer_at hi ws (length ws - 1) w (omega arith) (get_any ws (length ws - 1) d w (omega arith))

-- a batch goes to the first place behind all of its term and of lower ones
pub place_at : (b : Batch) (xs : List Batch) (i : ℕ) → i ≤ length xs → IsPartitionPoint (λ (y : Batch). nat_le y.term b.term ≡ true) (λ (y : Batch). nat_le y.term b.term ≡ false) xs i → insert xs i b ≡ place b xs
place_at b [] zero within at = refl
place_at b [] (suc i) within at = absurd (omega arith)
place_at b (x ∷ xs) zero within at =
    let later : leb x.term b.term ≡ false = at.1 0 x (omega arith) (omega arith) in
    by_lt (λ t. b ∷ x ∷ xs ≡ cond t (b ∷ x ∷ xs) (x ∷ place b xs)) b.term x.term (λ _. refl) (λ most. absurd (below_test x.term b.term later most))
place_at b (x ∷ xs) (suc i) within at =
    let first : leb x.term b.term ≡ true = at.0 0 x (omega arith) (omega arith) in
    by_lt (λ t. x ∷ insert xs i b ≡ cond t (b ∷ x ∷ xs) (x ∷ place b xs)) b.term x.term
    (λ less. absurd (above_test x.term b.term first less))
    (λ _. ap (λ (ys : List Batch). x ∷ ys) (place_at b xs i (omega arith) ((λ k d low high. at.0 (suc k) d (omega arith) (omega arith)), (λ k d low high. at.1 (suc k) d (omega arith) (omega arith)))))

-- all of them, where the last is of that term or a lower one
pub at_end : (t : ℕ) (xs : List Batch) (d : Batch) → IsNonDecreasingBy (λ (b : Batch). b.term) xs → (get_or xs (length xs - 1) d).term ≤ t
    → IsPartitionPoint (λ (y : Batch). nat_le y.term t ≡ true) (λ (y : Batch). nat_le y.term t ≡ false) xs (length xs)
at_end t xs d sorted most = (
  (λ k e low high.
      let least : (get_or xs k e).term ≤ (get_or xs (length xs - 1) e).term = sorted k (length xs - 1) e (omega arith) (omega arith) in
      test_le (get_or xs k e).term t (omega (arith, least, ap (λ (b : Batch). b.term) (get_any xs (length xs - 1) d e (omega arith))))),
  (λ k e low high. absurd (omega arith)),
)

-- behind all others
insert_end : (b : Batch) (xs : List Batch) → insert xs (length xs) b ≡ xs ++ b ∷ []
insert_end b [] = refl
insert_end b (x ∷ xs) = ap (λ (ys : List Batch). x ∷ ys) (insert_end b xs)

-- a batch whose place is the end is put there
pub place_end : (b : Batch) (xs : List Batch) (i : ℕ) → i ≡ length xs → IsPartitionPoint (λ (y : Batch). nat_le y.term b.term ≡ true) (λ (y : Batch). nat_le y.term b.term ≡ false) xs i → xs ++ b ∷ [] ≡ place b xs
place_end b xs i end at = sym (insert_end b xs) ∙ ap (λ (j : ℕ). insert xs j b) (sym end) ∙ place_at b xs i (omega (arith, end)) at
