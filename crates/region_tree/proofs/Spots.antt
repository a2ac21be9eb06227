-- Where the regions of a table stand: by an id, by a key, and the next one.
use Rattle.std.proofs.Common.{refl, ◌≡◌, ◌≢◌, ℕ, zero, suc, ◌+◌, ◌-◌, ◌<◌, ◌≤◌, Bool, true, false, not, cond, nat_eq, List, [], ◌∷◌, length, get_or, ap, sym, ◌∙◌, subst, Option, Some, None, arith, ◌⊎◌, inl, inr}
use Rattle.std.proofs.lemmas.Bool.{cases_eq, cases_Bool}
use Rattle.std.proofs.lemmas.Bool.Decides.{nat_tests}
use Rattle.std.proofs.lemmas.Option.{slice_get-get_or, slice_get_past, slice_get_within, get_or_from_slice_get}
use Rattle.std.specs.List.{find, All, slice_range, remove_range, slice_get}
use Rattle.std.specs.Option.{option_map}
use Rattle.pd_types.specs.declared.region.RegionBeat.{RegionBeat}
use Rattle.pd_types.specs.Keys.{is_before_end, is_below}
use Rattle.pd_types.proofs.Bools.{and_left, and_right, and_true, both, not_true, or_true}
use Rattle.pd_types.proofs.KeyLemmas.{not_below_itself}
use Rattle.pd_types.proofs.Filters.{filter_all, find_kept, find_none}
use Rattle.region_tree.specs.Ranges.{overlaps, holds, HasRange, ends_before}
use Rattle.region_tree.specs.Standing.{AreApart}
use Rattle.region_tree.specs.Stale.{is_behind, is_behind_overlapped}
use Rattle.region_tree.specs.Places.{others, IsPlace, IsRun}
use Rattle.region_tree.proofs.Rows.{row_outside, find_first, not_found, lt_or}
use Rattle.region_tree.proofs.Runs.{below_then_upto, rising, run_within}

-- the region of an id stands once
other_id : (a b c : ℕ) → nat_eq a b ≡ false → nat_eq b c ≡ true → nat_eq a c ≡ false
other_id a b c h k = grind (arith, nat_tests)

pub other_id_behind : (a b c : ℕ) → nat_eq b a ≡ false → nat_eq b c ≡ true → nat_eq a c ≡ false
other_id_behind a b c h k = grind (arith, nat_tests)

pub lone : (xs : List RegionBeat) (p id : ℕ) → AreApart xs → p < length xs → ((d : RegionBeat) → nat_eq (get_or xs p d).region.id id ≡ true) → (k : ℕ) (d : RegionBeat) → k < length xs → k ≢ p → nat_eq (get_or xs k d).region.id id ≡ false
lone xs p id apart low here k d within other = by (lt_or k p)
  where
    by : (k < p) ⊎ (p ≤ k) → nat_eq (get_or xs k d).region.id id ≡ false
    by (inl less) = other_id (get_or xs k d).region.id (get_or xs p d).region.id id (apart k p d less low).other_id (here d)
    by (inr more) = other_id_behind (get_or xs k d).region.id (get_or xs p d).region.id id (apart p k d (omega arith) within).other_id (here d)

-- the others are those before it and behind it
pub others_some : (xs : List RegionBeat) (p id : ℕ) → AreApart xs → IsPlace xs id (Some p) → remove_range xs p (p + 1) ≡ others id xs
others_some xs p id apart place =
    row_outside (λ one. nat_eq one.region.id id) p (p + 1) xs (omega arith) (λ k d low within. lone xs p id apart place.0 place.1 k d within (omega arith))
    (λ k d low high within. let same : k ≡ p = omega arith in subst (λ n. nat_eq (get_or xs n d).region.id id ≡ true) (sym same) (place.1 d)) (λ k d low within. lone xs p id apart place.0 place.1 k d within (omega arith))

pub others_none : (xs : List RegionBeat) (id : ℕ) → IsPlace xs id None → xs ≡ others id xs
others_none xs id place = sym (filter_all (λ one. not (nat_eq one.region.id id)) xs (λ k d low. ap not (place k d low)))

-- what is found by its id
got_head : {X : Type 0} (xs : List X) → (p : ℕ) → p < length xs → (x : X) × (slice_get xs p ≡ Some x)
got_head [] p low = absurd (omega arith)
got_head (x ∷ xs) zero low = (x, refl)
got_head (x ∷ xs) (suc p) low = got_head xs p (omega arith)

pub first_got : {X : Type 0} (q : X → Bool) (xs : List X) (p : ℕ) → p < length xs → ((k : ℕ) (d : X) → k < p → q (get_or xs k d) ≡ false) → ((d : X) → q (get_or xs p d) ≡ true) → find q xs ≡ slice_get xs p
first_got q xs p low before here = let (x, is) = got_head xs p low in find_first q p xs x low before (here x) ∙ sym (slice_get-get_or xs p x low)

pub find_placed : (xs : List RegionBeat) (p id : ℕ) → AreApart xs → IsPlace xs id (Some p) → slice_get xs p ≡ find (λ one. nat_eq one.region.id id) xs
find_placed xs p id apart place = sym (first_got (λ one. nat_eq one.region.id id) xs p place.0 (λ k d low. lone xs p id apart place.0 place.1 k d (omega (arith, place.0)) (omega arith)) place.1)

pub own_found : (xs : List RegionBeat) (p id : ℕ) (one d : RegionBeat) → AreApart xs → IsPlace xs id (Some p) → one ≡ get_or xs p d → Some one ≡ find (λ one. nat_eq one.region.id id) xs
own_found xs p id one d apart place is = ap (λ (x : RegionBeat). Some x) is ∙ sym (slice_get-get_or xs p d place.0) ∙ find_placed xs p id apart place

pub find_unplaced : (xs : List RegionBeat) (id : ℕ) → IsPlace xs id None → None ≡ find (λ one. nat_eq one.region.id id) xs
find_unplaced xs id place = sym (find_none (λ one. nat_eq one.region.id id) xs place)

found_at : {X : Type 0} (q : X → Bool) (xs : List X) (x : X) → find q xs ≡ Some x → (k : ℕ) × (k < length xs) × ((d : X) → get_or xs k d ≡ x) × (q x ≡ true)
found_at q [] x is = cc
found_at {X = X} q (y ∷ xs) x is = by (q y) refl (found_at q xs x) is
  where
    later : (k : ℕ) × (k < length xs) × ((d : X) → get_or xs k d ≡ x) × (q x ≡ true) → (k : ℕ) × (k < suc (length xs)) × ((d : X) → get_or (y ∷ xs) k d ≡ x) × (q x ≡ true)
    later (k, low, same, passes) = (suc k, omega arith, same, passes)

    by : (t : Bool) → q y ≡ t → (find q xs ≡ Some x → (k : ℕ) × (k < length xs) × ((d : X) → get_or xs k d ≡ x) × (q x ≡ true)) → cond t (Some y) (find q xs) ≡ Some x → (k : ℕ) × (k < suc (length xs)) × ((d : X) → get_or (y ∷ xs) k d ≡ x) × (q x ≡ true)
    by true passes deep same = let e : y ≡ x = cc in (0, omega arith, λ d. e, subst (λ z. q z ≡ true) e passes)
    by false fails deep same = later (deep same)

-- the place of the region whose start the index has
some_start : (o : Option RegionBeat) (start : List ℕ) → option_map (λ (one : RegionBeat). one.region.start) o ≡ Some start → (x : RegionBeat) × (o ≡ Some x) × (x.region.start ≡ start)
some_start (Some x) start is = (x, refl, cc)
some_start None start is = cc

no_start : (o : Option RegionBeat) → option_map (λ (one : RegionBeat). one.region.start) o ≡ None → o ≡ None
no_start (Some x) is = cc
no_start None is = refl

pub placed : (xs : List RegionBeat) (id r : ℕ) (start : List ℕ) → AreApart xs → All HasRange xs → Some start ≡ option_map (λ (one : RegionBeat). one.region.start) (find (λ one. nat_eq one.region.id id) xs)
    → ((k : ℕ) (d : RegionBeat) → k < r → is_below (get_or xs k d).region.start start ≡ true) → ((k : ℕ) (d : RegionBeat) → r ≤ k → k < length xs → is_below (get_or xs k d).region.start start ≡ false) → IsPlace xs id (Some r)
placed xs id r start apart ranges is before after =
    let (x, found, at) = some_start _ start (sym is) in
    let (k, low, same, has) = found_at (λ one. nat_eq one.region.id id) xs x found in
    by x k low same has at
  where
    by : (x : RegionBeat) (k : ℕ) → k < length xs → ((d : RegionBeat) → get_or xs k d ≡ x) → nat_eq x.region.id id ≡ true → x.region.start ≡ start → IsPlace xs id (Some r)
    by x k low same has at = (subst (λ n. n < length xs) here low, λ d. subst (λ n. nat_eq (get_or xs n d).region.id id ≡ true) here (rw same has))
      where
        start_at : (get_or xs k x).region.start ≡ start
        start_at = ap (λ (b : RegionBeat). b.region.start) (same x) ∙ at

        itself : is_below (get_or xs k x).region.start start ≡ false
        itself = subst (λ s. is_below (get_or xs k x).region.start s ≡ false) start_at (not_below_itself (get_or xs k x).region.start)

        high : k < r → ⊥
        high less = both (before k x less) itself

        deep : r < k → ⊥
        deep less = both (subst (λ s. is_below (get_or xs r x).region.start s ≡ true) start_at (rising xs apart ranges r k x less low)) (after r x (omega arith) (omega arith))

        here : k ≡ r
        here = omega (arith, high, deep)

pub unplaced : (xs : List RegionBeat) (id : ℕ) → None ≡ option_map (λ (one : RegionBeat). one.region.start) (find (λ one. nat_eq one.region.id id) xs) → IsPlace xs id None
unplaced xs id is = not_found (λ one. nat_eq one.region.id id) xs (no_start _ (sym is))

-- the region whose range has a key
begins_above : (key : List ℕ) (one : RegionBeat) → is_below key one.region.start ≡ true → holds one key ≡ false
begins_above key one above = and_left (not (is_below key one.region.start)) (is_before_end key one.region.end) (ap not above)

pub none_holds : (key : List ℕ) (xs : List RegionBeat) (r : ℕ) → r ≡ 0 → ((k : ℕ) (d : RegionBeat) → r ≤ k → k < length xs → is_below key (get_or xs k d).region.start ≡ true) → None ≡ find (λ one. holds one key) xs
none_holds key xs r zero_is after = sym (find_none (λ one. holds one key) xs (λ k d low. begins_above key (get_or xs k d) (after k d (omega arith) low)))

-- what ends before a region that begins at a key or below it
ends_below_key : (key : List ℕ) (one other : RegionBeat) → ends_before one other ≡ true → is_below key other.region.start ≡ false → holds one key ≡ false
ends_below_key key one other ends upto = and_right (not (is_below key one.region.start)) (is_before_end key one.region.end) (by (cases_Bool (is_before_end key one.region.end)) (and_true (not (nat_eq (length one.region.end) 0)) (not (is_below other.region.start one.region.end)) ends))
  where
    deep : not (nat_eq (length one.region.end) 0) ≡ true → not (is_below other.region.start one.region.end) ≡ true → (nat_eq (length one.region.end) 0 ≡ true) ⊎ (is_below key one.region.end ≡ true) → ⊥
    deep some past (inl none) = both none (not_true (nat_eq (length one.region.end) 0) some)
    deep some past (inr less) = both (below_then_upto key one.region.end other.region.start less (not_true (is_below other.region.start one.region.end) past)) upto

    by : (is_before_end key one.region.end ≡ true) ⊎ (is_before_end key one.region.end ≡ false) → (not (nat_eq (length one.region.end) 0) ≡ true) × (not (is_below other.region.start one.region.end) ≡ true) → is_before_end key one.region.end ≡ false
    by (inr other) parts = other
    by (inl known) parts = absurd (deep parts.0 parts.1 (or_true (nat_eq (length one.region.end) 0) (is_below key one.region.end) known))

pub last_holds : (key : List ℕ) (xs : List RegionBeat) (r : ℕ) (one : RegionBeat) → AreApart xs → r ≢ 0 → r ≤ length xs → ((k : ℕ) (d : RegionBeat) → k < r → is_below key (get_or xs k d).region.start ≡ false) → one ≡ get_or xs (r - 1) one → holds one key ≡ true → Some one ≡ find (λ one. holds one key) xs
last_holds key xs r one apart some bound before is has =
    sym (find_first (λ one. holds one key) (r - 1) xs one (omega arith) (λ k d low. ends_below_key key (get_or xs k d) (get_or xs (r - 1) d) (apart k (r - 1) d low (omega arith)).ends (before (r - 1) d (omega arith))) (subst (λ z. holds z key ≡ true) is has) ∙ ap (λ (z : RegionBeat). Some z) (sym is))

pub last_fails : (key : List ℕ) (xs : List RegionBeat) (r : ℕ) (one : RegionBeat) → AreApart xs → r ≢ 0 → r ≤ length xs → ((k : ℕ) (d : RegionBeat) → k < r → is_below key (get_or xs k d).region.start ≡ false) → ((k : ℕ) (d : RegionBeat) → r ≤ k → k < length xs → is_below key (get_or xs k d).region.start ≡ true) → one ≡ get_or xs (r - 1) one → holds one key ≡ false → None ≡ find (λ one. holds one key) xs
last_fails key xs r one apart some bound before after is has = sym (find_none (λ one. holds one key) xs (λ k d low. by k d low (cases_eq k (r - 1)) (lt_or k r)))
  where
    at_last : (d : RegionBeat) → get_or xs (r - 1) d ≡ one
    at_last d = get_or_same (r - 1) xs d one (omega arith) ∙ sym is
      where
        get_or_same : (k : ℕ) (xs : List RegionBeat) (d e : RegionBeat) → k < length xs → get_or xs k d ≡ get_or xs k e
        get_or_same k [] d e low = absurd (omega arith)
        get_or_same zero (x ∷ xs) d e low = refl
        get_or_same (suc k) (x ∷ xs) d e low = get_or_same k xs d e (omega arith)

    by : (k : ℕ) (d : RegionBeat) → k < length xs → (k ≡ r - 1) ⊎ (k ≡ r - 1 → ⊥) → (k < r) ⊎ (r ≤ k) → holds (get_or xs k d) key ≡ false
    by k d low (inl same) either = subst (λ n. holds (get_or xs n d) key ≡ false) (sym same) (subst (λ z. holds z key ≡ false) (sym (at_last d)) has)
    by k d low (inr other) (inl less) = ends_below_key key (get_or xs k d) (get_or xs (r - 1) d) (apart k (r - 1) d (omega arith) (omega arith)).ends (before (r - 1) d (omega arith))
    by k d low (inr other) (inr more) = begins_above key (get_or xs k d) (after k d more low)

-- the next region
pub next_found : (start : List ℕ) (xs : List RegionBeat) (r : ℕ) → r ≤ length xs → ((k : ℕ) (d : RegionBeat) → k < r → is_below start (get_or xs k d).region.start ≡ false) → ((k : ℕ) (d : RegionBeat) → r ≤ k → k < length xs → is_below start (get_or xs k d).region.start ≡ true) → slice_get xs r ≡ find (λ next. is_below start next.region.start) xs
next_found start xs r bound before after = by (cases_eq r (length xs))
  where
    by : (r ≡ length xs) ⊎ (r ≡ length xs → ⊥) → slice_get xs r ≡ find (λ next. is_below start next.region.start) xs
    by (inl same) = slice_get_past xs r (omega arith) ∙ sym (find_none (λ next. is_below start next.region.start) xs (λ k d low. before k d (omega arith)))
    by (inr other) = sym (first_got (λ next. is_below start next.region.start) xs r (omega arith) before (λ d. after r d (omega arith) (omega arith)))

pub next_place : (one : RegionBeat) (xs : List RegionBeat) (r place : ℕ) → AreApart xs → All HasRange xs → r ≤ length xs → ((k : ℕ) (d : RegionBeat) → k < r → is_below one.region.start (get_or xs k d).region.start ≡ false) → ((k : ℕ) (d : RegionBeat) → r ≤ k → k < length xs → is_below one.region.start (get_or xs k d).region.start ≡ true) → slice_get xs place ≡ Some one → r ≡ place + 1
next_place one xs r place apart ranges bound before after at = omega (arith, within, past, beyond)
  where
    within : place < length xs
    within = slice_get_within xs place one at

    here : get_or xs place one ≡ one
    here = get_or_from_slice_get xs place one one at

    past : r ≤ place → ⊥
    past low = both (after place one low within) (subst (λ (z : RegionBeat). is_below one.region.start z.region.start ≡ false) (sym here) (not_below_itself one.region.start))

    beyond : place + 1 < r → ⊥
    beyond low = both (subst (λ (z : RegionBeat). is_below z.region.start (get_or xs (place + 1) one).region.start ≡ true) here (rising xs apart ranges place (place + 1) one (omega arith) (omega arith))) (before (place + 1) one low)

-- staleness by the region of the heartbeat's id
pub behind_at : (b one : RegionBeat) (xs : List RegionBeat) (p : ℕ) → AreApart xs → IsPlace xs b.region.id (Some p) → one ≡ get_or xs p one → is_behind b one ≡ true → Some one ≡ find (is_behind b) xs
behind_at b one xs p apart place is old =
    sym (find_first (is_behind b) p xs one place.0 (λ k d low. not_behind b (get_or xs k d) (lone xs p b.region.id apart place.0 place.1 k d (omega (arith, place.0)) (omega arith))) (subst (λ z. is_behind b z ≡ true) is old) ∙ ap (λ (z : RegionBeat). Some z) (sym is))
  where
    not_behind : (b x : RegionBeat) → nat_eq x.region.id b.region.id ≡ false → is_behind b x ≡ false
    not_behind b x h = and_left (nat_eq x.region.id b.region.id) _ h

pub behind_not : (b one : RegionBeat) (xs : List RegionBeat) (p : ℕ) → AreApart xs → IsPlace xs b.region.id (Some p) → one ≡ get_or xs p one → is_behind b one ≡ false → None ≡ find (is_behind b) xs
behind_not b one xs p apart place is new = sym (find_none (is_behind b) xs (λ k d low. by k d low (cases_eq k p)))
  where
    same_at : (k : ℕ) (xs : List RegionBeat) (d e : RegionBeat) → k < length xs → get_or xs k d ≡ get_or xs k e
    same_at k [] d e low = absurd (omega arith)
    same_at zero (x ∷ xs) d e low = refl
    same_at (suc k) (x ∷ xs) d e low = same_at k xs d e (omega arith)

    by : (k : ℕ) (d : RegionBeat) → k < length xs → (k ≡ p) ⊎ (k ≡ p → ⊥) → is_behind b (get_or xs k d) ≡ false
    by k d low (inl same) = subst (λ n. is_behind b (get_or xs n d) ≡ false) (sym same) (subst (λ z. is_behind b z ≡ false) (is ∙ same_at p xs one d place.0) new)
    by k d low (inr other) = and_left (nat_eq (get_or xs k d).region.id b.region.id) _ (lone xs p b.region.id apart place.0 place.1 k d low other)

pub behind_none : (b : RegionBeat) (xs : List RegionBeat) → IsPlace xs b.region.id None → None ≡ find (is_behind b) xs
behind_none b xs place = sym (find_none (is_behind b) xs (λ k d low. and_left (nat_eq (get_or xs k d).region.id b.region.id) _ (place k d low)))

pub behind_run : (b : RegionBeat) (xs : List RegionBeat) (from upto : ℕ) → IsRun b xs from upto → find (is_behind_overlapped b) (slice_range xs from upto) ≡ find (is_behind_overlapped b) xs
behind_run b xs from upto run =
    ap (find (is_behind_overlapped b)) (run_within b xs from upto run) ∙ find_kept (is_behind_overlapped b) (overlaps b) (λ x h. (and_true (overlaps b x) _ h).0) xs
