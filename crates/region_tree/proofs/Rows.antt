-- Rows of a list that pass a test, filters, and what a test finds.
use Rattle.std.proofs.Common.{refl, ◌≡◌, ℕ, zero, suc, ◌+◌, ◌-◌, ◌<◌, ◌≤◌, Bool, true, false, not, ◌&&◌, cond, List, [], ◌∷◌, length, get_or, take, drop, ap, sym, ◌∙◌, Some, None, nat_lt, arith, ◌⊎◌, inl, inr}
use Rattle.std.proofs.lemmas.Bool.Decides.{nat_tests}
use Rattle.std.specs.List.{filter, find, slice_range, remove_range}
use Rattle.pd_types.proofs.Filters.{filter_all}

pub keep_none : {X : Type 0} (q : X → Bool) (xs : List X) → ((k : ℕ) (d : X) → k < length xs → q (get_or xs k d) ≡ false) → filter q xs ≡ []
keep_none q [] none = refl
keep_none q (x ∷ xs) none =
    ap (λ (c : Bool). cond c (x ∷ filter q xs) (filter q xs)) (none 0 x (omega arith)) ∙ keep_none q xs (λ k d low. none (suc k) d (omega arith))

-- the first n pass, and the others don't
keep_front : {X : Type 0} (q : X → Bool) (n : ℕ) (xs : List X) → ((k : ℕ) (d : X) → k < n → k < length xs → q (get_or xs k d) ≡ true) → ((k : ℕ) (d : X) → n ≤ k → k < length xs → q (get_or xs k d) ≡ false) → filter q xs ≡ take n xs
keep_front q zero xs passes fails = keep_none q xs (λ k d low. fails k d (omega arith) low)
keep_front q (suc n) [] passes fails = refl
keep_front q (suc n) (x ∷ xs) passes fails =
    ap (λ (c : Bool). cond c (x ∷ filter q xs) (filter q xs)) (passes 0 x (omega arith) (omega arith))
    ∙ ap (λ (l : List _). x ∷ l) (keep_front q n xs (λ k d less low. passes (suc k) d (omega arith) (omega arith)) (λ k d less low. fails (suc k) d (omega arith) (omega arith)))

-- those in the middle pass
keep_mid : {X : Type 0} (q : X → Bool) (from n : ℕ) (xs : List X) → ((k : ℕ) (d : X) → k < from → k < length xs → q (get_or xs k d) ≡ false) → ((k : ℕ) (d : X) → from ≤ k → k < from + n → k < length xs → q (get_or xs k d) ≡ true)
    → ((k : ℕ) (d : X) → from + n ≤ k → k < length xs → q (get_or xs k d) ≡ false) → filter q xs ≡ take n (drop from xs)
keep_mid q zero n xs low mid high = keep_front q n xs (λ k d less within. mid k d (omega arith) (omega arith) within) (λ k d less within. high k d (omega arith) within)
keep_mid q (suc from) zero [] low mid high = refl
keep_mid q (suc from) (suc n) [] low mid high = refl
keep_mid q (suc from) n (x ∷ xs) low mid high =
    ap (λ (c : Bool). cond c (x ∷ filter q xs) (filter q xs)) (low 0 x (omega arith) (omega arith))
    ∙ keep_mid q from n xs (λ k d less within. low (suc k) d (omega arith) (omega arith)) (λ k d less more within. mid (suc k) d (omega arith) (omega arith) (omega arith)) (λ k d less within. high (suc k) d (omega arith) (omega arith))

-- those outside of the middle pass
keep_out : {X : Type 0} (q : X → Bool) (from upto : ℕ) (xs : List X) → from ≤ upto → ((k : ℕ) (d : X) → k < from → k < length xs → q (get_or xs k d) ≡ true) → ((k : ℕ) (d : X) → from ≤ k → k < upto → k < length xs → q (get_or xs k d) ≡ false)
    → ((k : ℕ) (d : X) → upto ≤ k → k < length xs → q (get_or xs k d) ≡ true) → filter q xs ≡ remove_range xs from upto
keep_out q zero zero xs order low mid high = filter_all q xs (λ k d within. high k d (omega arith) within)
keep_out q zero (suc upto) [] order low mid high = refl
keep_out q zero (suc upto) (x ∷ xs) order low mid high =
    ap (λ (c : Bool). cond c (x ∷ filter q xs) (filter q xs)) (mid 0 x (omega arith) (omega arith) (omega arith))
    ∙ keep_out q zero upto xs (omega arith) (λ k d less within. absurd (omega arith)) (λ k d less more within. mid (suc k) d (omega arith) (omega arith) (omega arith)) (λ k d less within. high (suc k) d (omega arith) (omega arith))
keep_out q (suc from) zero xs order low mid high = absurd (omega arith)
keep_out q (suc from) (suc upto) [] order low mid high = refl
keep_out q (suc from) (suc upto) (x ∷ xs) order low mid high =
    ap (λ (c : Bool). cond c (x ∷ filter q xs) (filter q xs)) (low 0 x (omega arith) (omega arith))
    ∙ ap (λ (l : List _). x ∷ l) (keep_out q from upto xs (omega arith) (λ k d less within. low (suc k) d (omega arith) (omega arith)) (λ k d less more within. mid (suc k) d (omega arith) (omega arith) (omega arith)) (λ k d less within. high (suc k) d (omega arith) (omega arith)))

-- the row of those that pass a test, from one place up to another
pub row_within : {X : Type 0} (q : X → Bool) (from upto : ℕ) (xs : List X) → from ≤ upto → ((k : ℕ) (d : X) → k < from → k < length xs → q (get_or xs k d) ≡ false) → ((k : ℕ) (d : X) → from ≤ k → k < upto → k < length xs → q (get_or xs k d) ≡ true)
    → ((k : ℕ) (d : X) → upto ≤ k → k < length xs → q (get_or xs k d) ≡ false) → slice_range xs from upto ≡ filter q xs
row_within q from upto xs order low mid high =
    sym (keep_mid q from (upto - from) xs low (λ k d less more within. mid k d less (omega arith) within) (λ k d less within. high k d (omega arith) within))

pub row_outside : {X : Type 0} (q : X → Bool) (from upto : ℕ) (xs : List X) → from ≤ upto → ((k : ℕ) (d : X) → k < from → k < length xs → q (get_or xs k d) ≡ false) → ((k : ℕ) (d : X) → from ≤ k → k < upto → k < length xs → q (get_or xs k d) ≡ true)
    → ((k : ℕ) (d : X) → upto ≤ k → k < length xs → q (get_or xs k d) ≡ false) → remove_range xs from upto ≡ filter (λ x. not (q x)) xs
row_outside q from upto xs order low mid high =
    sym (keep_out (λ x. not (q x)) from upto xs order (λ k d less within. ap not (low k d less within)) (λ k d less more within. ap not (mid k d less more within)) (λ k d less within. ap not (high k d less within)))

-- filters of filters
pub filter_twice : {X : Type 0} (p q : X → Bool) (xs : List X) → filter q (filter p xs) ≡ filter (λ x. p x && q x) xs
filter_twice p q [] = refl
filter_twice {X = X} p q (x ∷ xs) = by (p x) (filter_twice p q xs)
  where
    by : (t : Bool) → filter q (filter p xs) ≡ filter (λ x. p x && q x) xs → filter q (cond t (x ∷ filter p xs) (filter p xs)) ≡ cond (t && q x) (x ∷ filter (λ x. p x && q x) xs) (filter (λ x. p x && q x) xs)
    by true e = ap (λ (l : List X). cond (q x) (x ∷ l) l) e
    by false e = e

pub filter_alike : {X : Type 0} (p q : X → Bool) → ((x : X) → p x ≡ q x) → (xs : List X) → filter p xs ≡ filter q xs
filter_alike p q same [] = refl
filter_alike {X = X} p q same (x ∷ xs) = ap (λ (c : Bool). cond c (x ∷ filter p xs) (filter p xs)) (same x) ∙ ap (λ (l : List X). cond (q x) (x ∷ l) l) (filter_alike p q same xs)

pub find_first : {X : Type 0} (p : X → Bool) (i : ℕ) (xs : List X) (d : X) → i < length xs → ((k : ℕ) (d : X) → k < i → p (get_or xs k d) ≡ false) → p (get_or xs i d) ≡ true → find p xs ≡ Some (get_or xs i d)
find_first p i [] d low before here = absurd (omega arith)
find_first p zero (x ∷ xs) d low before here = ap (λ (c : Bool). cond c (Some x) (find p xs)) here
find_first p (suc i) (x ∷ xs) d low before here =
    ap (λ (c : Bool). cond c (Some x) (find p xs)) (before 0 x (omega arith)) ∙ find_first p i xs d (omega arith) (λ k e less. before (suc k) e (omega arith)) here

pub not_found : {X : Type 0} (q : X → Bool) (xs : List X) → find q xs ≡ None → (k : ℕ) (d : X) → k < length xs → q (get_or xs k d) ≡ false
not_found q [] is k d low = absurd (omega arith)
not_found {X = X} q (y ∷ xs) is k d low = by (q y) refl (not_found q xs) is k d low
  where
    by : (t : Bool) → q y ≡ t → (find q xs ≡ None → (k : ℕ) (d : X) → k < length xs → q (get_or xs k d) ≡ false) → cond t (Some y) (find q xs) ≡ None → (k : ℕ) (d : X) → k < suc (length xs) → q (get_or (y ∷ xs) k d) ≡ false
    by true passes deep same k d low = cc
    by false fails deep same zero d low = fails
    by false fails deep same (suc k) d low = deep same k d (omega arith)

pub lt_or : (a b : ℕ) → (a < b) ⊎ (b ≤ a)
lt_or a b = by (nat_lt a b) refl
  where
    by : (t : Bool) → nat_lt a b ≡ t → (a < b) ⊎ (b ≤ a)
    by true less = inl (grind (arith, nat_tests))
    by false more = inr (grind (arith, nat_tests))
