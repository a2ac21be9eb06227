-- Keys in the order of their bytes.
use Rattle.std.proofs.Common.{refl, ◌≡◌, ◌≢◌, ℕ, ◌<◌, Bool, true, false, ◌||◌, nat_eq, List, [], ◌∷◌, ◌++◌, length, ap, sym, ◌∙◌, subst, ◌⊎◌, inl, inr, arith}
use Rattle.std.proofs.lemmas.Bool.{cases_Bool, true≢false}
use Rattle.std.proofs.lemmas.Bool.Decides.{nat_tests}
use Rattle.std.proofs.lemmas.Cmp.{nat_list_cmp_total, upto}
use Rattle.std.proofs.lemmas.Map.Text.{is_eq-slice_cmp}
use Rattle.std.proofs.lemmas.Slice.Eq.{bytes_eq-Decides}
use Rattle.std.specs.Cmp.Lexicographic.{slice_cmp}
use Rattle.std.specs.Ordering.{nat_cmp, is_lt, is_gt, is_eq, ordering_reverse}
use Rattle.std.specs.Str.{bytes_eq}
use Rattle.std.specs.declared.cmp.Ordering.{Ordering}
use Rattle.std.specs.declared.cmp.Ordering.TheVariants.{Less, Equal, Greater}
use Rattle.pd_types.proofs.Bools.{both, or_right, or_true}
use Rattle.pd_types.specs.Keys.{is_before_end, is_below}

alike : (a : ℕ) → nat_cmp a a ≡ Equal
alike a = grind (arith, nat_tests)

less : (a b : ℕ) → a < b → nat_cmp a b ≡ Less
less a b h = grind (arith, nat_tests)

pub below_longer : (key rest : List ℕ) (byte : ℕ) → is_below key (key ++ byte ∷ rest) ≡ true
below_longer [] rest byte = refl
below_longer (x ∷ key) rest byte = rw (alike x) (below_longer key rest byte)

pub below_lesser : (key left right : List ℕ) (a b : ℕ) → a < b → is_below (key ++ a ∷ left) (key ++ b ∷ right) ≡ true
below_lesser [] left right a b h = rw (less a b h) refl
below_lesser (x ∷ key) left right a b h = rw (alike x) (below_lesser key left right a b h)

pub reverse_gt : (o : Ordering) → is_gt (ordering_reverse o) ≡ is_lt o
reverse_gt o = elim o as (λ o. is_gt (ordering_reverse o) ≡ is_lt o) [ Less ↦ refl | Equal ↦ refl | Greater ↦ refl ]

pub less_is : (o : Ordering) → is_lt o ≡ true → o ≡ Less
less_is Less h = refl
less_is Equal h = absurd (true≢false (sym h))
less_is Greater h = absurd (true≢false (sym h))

pub gt_is_below : (a b : List ℕ) → is_gt (slice_cmp nat_cmp a b) ≡ is_below b a
gt_is_below a b = ap is_gt (nat_list_cmp_total.antisymm a b) ∙ reverse_gt (slice_cmp nat_cmp b a)

pub below_trans : (a b c : List ℕ) → is_below a b ≡ true → is_below b c ≡ true → is_below a c ≡ true
below_trans a b c first second =
    ap is_lt (nat_list_cmp_total.trans a b c (less_is (slice_cmp nat_cmp a b) first) (less_is (slice_cmp nat_cmp b c) second))

-- a is at most b, and b at most c
pub upto_trans : (a b c : List ℕ) → is_below b a ≡ false → is_below c b ≡ false → is_below c a ≡ false
upto_trans a b c first second =
    sym (gt_is_below a c) ∙ upto nat_list_cmp_total a b c (gt_is_below a b ∙ first) (gt_is_below b c ∙ second)

-- a is at most b, and b below c
pub upto_below : (a b c : List ℕ) → is_below b a ≡ false → is_below b c ≡ true → is_below a c ≡ true
upto_below a b c first second = by (cases_Bool (is_below a c))
  where
    by : (is_below a c ≡ true) ⊎ (is_below a c ≡ false) → is_below a c ≡ true
    by (inl known) = known
    by (inr other) = absurd (both second (upto_trans c a b other first))

pub not_below_itself : (a : List ℕ) → is_below a a ≡ false
not_below_itself a = by (cases_Bool (is_below a a))
  where
    by : (is_below a a ≡ true) ⊎ (is_below a a ≡ false) → is_below a a ≡ false
    by (inl known) = absurd (both known (ap is_lt (nat_list_cmp_total.antisymm a a ∙ ap ordering_reverse (less_is (slice_cmp nat_cmp a a) known))))
    by (inr other) = other

pub below_upto : (a b : List ℕ) → is_below a b ≡ true → is_below b a ≡ false
below_upto a b less = by (cases_Bool (is_below b a))
  where
    by : (is_below b a ≡ true) ⊎ (is_below b a ≡ false) → is_below b a ≡ false
    by (inl known) = absurd (both (below_trans a b a less known) (not_below_itself a))
    by (inr other) = other

pub equal_keys : (a b : List ℕ) → a ≡ b → bytes_eq a b ≡ true
equal_keys a b same = (bytes_eq-Decides a b).1 same

pub same_keys : (a b : List ℕ) → bytes_eq a b ≡ true → a ≡ b
same_keys a b equal = (bytes_eq-Decides a b).0 equal

pub other_keys : (a b : List ℕ) → a ≢ b → bytes_eq a b ≡ false
other_keys a b other = by (cases_Bool (bytes_eq a b))
  where
    by : (bytes_eq a b ≡ true) ⊎ (bytes_eq a b ≡ false) → bytes_eq a b ≡ false
    by (inl equal) = absurd (other (same_keys a b equal))
    by (inr known) = known

pub below_other : (a b : List ℕ) → is_below a b ≡ true → bytes_eq a b ≡ false
below_other a b less = other_keys a b (λ same. both (subst (λ k. is_below k b ≡ true) same less) (not_below_itself b))

pub above_other : (a b : List ℕ) → is_below a b ≡ true → bytes_eq b a ≡ false
above_other a b less = other_keys b a (λ same. both (subst (λ k. is_below a k ≡ true) same less) (not_below_itself a))

cases_eq_or : (o : Ordering) → is_lt o ≡ false → is_gt o ≡ false → is_eq o ≡ true
cases_eq_or Less lt gt = absurd (true≢false lt)
cases_eq_or Equal lt gt = refl
cases_eq_or Greater lt gt = absurd (true≢false gt)

-- neither is below the other
pub neither_below : (a b : List ℕ) → is_below a b ≡ false → is_below b a ≡ false → a ≡ b
neither_below a b one other =
    same_keys a b (sym (is_eq-slice_cmp a b) ∙ cases_eq_or (slice_cmp nat_cmp a b) one (gt_is_below a b ∙ other))

-- not below another, and not the same
pub above : (a b : List ℕ) → is_below a b ≡ false → a ≢ b → is_below b a ≡ true
above a b upto other = by (cases_Bool (is_below b a))
  where
    by : (is_below b a ≡ true) ⊎ (is_below b a ≡ false) → is_below b a ≡ true
    by (inl known) = known
    by (inr neither) = absurd (other (neither_below a b upto neither))

-- what is at most a key before the end is before the end
pub before_end : (key other end : List ℕ) → is_below other key ≡ false → is_before_end other end ≡ true → is_before_end key end ≡ true
before_end key other end upto h = by (or_true (nat_eq (length end) 0) (is_below other end) h)
  where
    by : (nat_eq (length end) 0 ≡ true) ⊎ (is_below other end ≡ true) → is_before_end key end ≡ true
    by (inl none) = rw none refl
    by (inr less) = or_right (nat_eq (length end) 0) (is_below key end) (upto_below key other end upto less)
