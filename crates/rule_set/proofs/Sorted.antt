-- Lists in an order, and what an insertion at the place of an element makes of them.
use Rattle.std.proofs.Common.{refl, ◌≡◌, ℕ, ◌+◌, ◌-◌, ◌<◌, ◌≤◌, true, false, List, length, get_or, ap, sym, ◌∙◌, arith, ◌⊎◌, inl, inr, subst}
use Rattle.std.proofs.lemmas.Bool.{cases_eq, cases_order, cases_Bool, true≢false}
use Rattle.std.proofs.lemmas.List.Edits.{get_or-insert_below, get_or-insert_at, get_or-insert_above, length-insert}
use Rattle.std.proofs.lemmas.Cmp.{upto}
use Rattle.std.specs.Cmp.{IsTotalOrder}
use Rattle.std.specs.Ordering.{is_lt, is_gt}
use Rattle.std.specs.declared.cmp.Ordering.{Ordering}
use Rattle.std.specs.declared.cmp.Ordering.TheVariants.{Less, Equal, Greater}
use Rattle.std.specs.List.{AllPairs, insert}
use Rattle.std.specs.List.Sorted.{IsPartitionedBy}
use Rattle.pd_types.proofs.KeyLemmas.{reverse_gt}

module _ {X : Type 0} (R : X → X → Type 0) where
  related : (a b a' b' : X) → a ≡ a' → b ≡ b' → R a' b' → R a b
  related a b a' b' one other holds = subst (λ x. R x b) (sym one) (subst (λ y. R a' y) (sym other) holds)

  at_insert : (xs : List X) (i : ℕ) (y d : X) (k : ℕ) → k ≡ i → i ≤ length xs → get_or (insert xs i y) k d ≡ y
  at_insert xs i y d k here within = subst (λ m. get_or (insert xs i y) m d ≡ y) (sym here) (get_or-insert_at xs i y d within)

  past_insert : (xs : List X) (i : ℕ) (y d : X) (k : ℕ) → i < k → i ≤ length xs → get_or (insert xs i y) k d ≡ get_or xs (k - 1) d
  past_insert xs i y d k past within =
      let moved : k - 1 + 1 ≡ k = omega arith in
      subst (λ m. get_or (insert xs i y) m d ≡ get_or xs (k - 1) d) moved (get_or-insert_above xs i y d (k - 1) (omega arith) within)

  paired : (xs : List X) (i : ℕ) (y d : X) (j k : ℕ) → i ≤ length xs → AllPairs R xs → ((m : ℕ) → m < i → R (get_or xs m d) y) → ((m : ℕ) → i ≤ m → m < length xs → R y (get_or xs m d)) → j < k → k < length xs + 1 → (j ≡ i) ⊎ ((j < i) ⊎ (i < j)) → (k ≡ i) ⊎ ((k < i) ⊎ (i < k)) → R (get_or (insert xs i y) j d) (get_or (insert xs i y) k d)
  paired xs i y d j k within pairs before after less low (inl j_here) (inl k_here) = absurd (omega arith)
  paired xs i y d j k within pairs before after less low (inl j_here) (inr (inl k_before)) = absurd (omega arith)
  paired xs i y d j k within pairs before after less low (inl j_here) (inr (inr k_past)) =
      related _ _ _ _ (at_insert xs i y d j j_here within) (past_insert xs i y d k k_past within) (after (k - 1) (omega arith) (omega arith))
  paired xs i y d j k within pairs before after less low (inr (inl j_before)) (inl k_here) =
      related _ _ _ _ (get_or-insert_below xs i y d j j_before within) (at_insert xs i y d k k_here within) (before j j_before)
  paired xs i y d j k within pairs before after less low (inr (inl j_before)) (inr (inl k_before)) =
      related _ _ _ _ (get_or-insert_below xs i y d j j_before within) (get_or-insert_below xs i y d k k_before within) (pairs j k d less (omega arith))
  paired xs i y d j k within pairs before after less low (inr (inl j_before)) (inr (inr k_past)) =
      related _ _ _ _ (get_or-insert_below xs i y d j j_before within) (past_insert xs i y d k k_past within) (pairs j (k - 1) d (omega arith) (omega arith))
  paired xs i y d j k within pairs before after less low (inr (inr j_past)) (inl k_here) = absurd (omega arith)
  paired xs i y d j k within pairs before after less low (inr (inr j_past)) (inr (inl k_before)) = absurd (omega arith)
  paired xs i y d j k within pairs before after less low (inr (inr j_past)) (inr (inr k_past)) =
      related _ _ _ _ (past_insert xs i y d j j_past within) (past_insert xs i y d k k_past within) (pairs (j - 1) (k - 1) d (omega arith) (omega arith))

  -- an element that those before its place are related to, and that is related to those behind
  pub pairs_insert : (xs : List X) (i : ℕ) (y : X) → i ≤ length xs → AllPairs R xs → ((m : ℕ) (d : X) → m < i → R (get_or xs m d) y) → ((m : ℕ) (d : X) → i ≤ m → m < length xs → R y (get_or xs m d)) → AllPairs R (insert xs i y)
  pairs_insert xs i y within pairs before after j k d less low =
      paired xs i y d j k within pairs (λ m. before m d) (λ m. after m d) less (let long = length-insert xs i y within in omega arith) (cases_order j i) (cases_order k i)

is_lt_not_gt : (o : Ordering) → is_lt o ≡ true → is_gt o ≡ false
is_lt_not_gt o less = elim o as (λ o. is_lt o ≡ true → is_gt o ≡ false) [ Less ↦ λ h. refl | Equal ↦ λ h. refl | Greater ↦ λ h. cc ] less

module _ {X : Type 0} (cmp : X → X → Ordering) (total : IsTotalOrder cmp) where
  -- what comes before isn't after
  pub before_not_after : (x y : X) → is_lt (cmp x y) ≡ true → is_gt (cmp x y) ≡ false
  before_not_after x y less = is_lt_not_gt (cmp x y) less

  pub gt_is_lt : (x y : X) → is_gt (cmp x y) ≡ is_lt (cmp y x)
  gt_is_lt x y = ap is_gt (total.antisymm x y) ∙ reverse_gt (cmp y x)

  pub not_before_after : (x y : X) → is_lt (cmp x y) ≡ false → is_gt (cmp y x) ≡ false
  not_before_after x y not_less = gt_is_lt y x ∙ not_less

  -- those before an element stand first
  pub parted : (y : X) (xs : List X) → AllPairs (λ one later. is_gt (cmp one later) ≡ false) xs → IsPartitionedBy (λ x. is_lt (cmp x y)) xs
  parted y xs order i j d not_after inside passes = from_cases (cases_eq i j) (cases_Bool (is_lt (cmp (get_or xs i d) y)))
    where
      from_cases : (i ≡ j) ⊎ (i ≡ j → ⊥) → (is_lt (cmp (get_or xs i d) y) ≡ true) ⊎ (is_lt (cmp (get_or xs i d) y) ≡ false) → is_lt (cmp (get_or xs i d) y) ≡ true
      from_cases (inl same) known = subst (λ k. is_lt (cmp (get_or xs k d) y) ≡ true) (sym same) passes
      from_cases (inr other) (inl less) = less
      from_cases (inr other) (inr not_less) =
          let chain = upto total y (get_or xs i d) (get_or xs j d) (not_before_after _ _ not_less) (order i j d (omega arith) inside) in
          absurd (true≢false (sym passes ∙ sym (gt_is_lt y (get_or xs j d)) ∙ chain))
