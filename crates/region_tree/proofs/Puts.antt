-- What a heartbeat displaces, and the table with it.
use Rattle.std.proofs.Common.{refl, ◌≡◌, ℕ, zero, suc, ◌+◌, ◌-◌, ◌<◌, ◌≤◌, Bool, true, false, not, ◌&&◌, ◌||◌, cond, nat_eq, nat_lt, List, [], ◌∷◌, ◌++◌, length, get_or, take, drop, ap, sym, ◌∙◌, Option, Some, None, arith, ◌⊎◌, inl, inr, length-take, length-drop, length-append, add-zero, append_assoc, add-one, set}
use Rattle.std.proofs.lemmas.Bool.{cases_Bool}
use Rattle.std.proofs.lemmas.Bool.Decides.{nat_tests}
use Rattle.std.specs.List.{filter, find, list_any, All, slice_range, remove_range}
use Rattle.std.specs.Option.{option_map, is_some}
use Rattle.std.specs.Ordering.{nat_cmp, eq_by_cmp, is_eq}
use Rattle.std.specs.declared.cmp.Ordering.TheVariants.{Less, Equal, Greater}
use Rattle.std.specs.Cmp.{nat_cmp_total}
use Rattle.std.proofs.lemmas.List.Elements.{filter_passes}
use Rattle.std.proofs.lemmas.List.Filters.{length-filter_both}
use Rattle.std.proofs.lemmas.List.Kept.{AllPairs-filter}
use Rattle.std.specs.FinMap as map
use Rattle.pd_types.specs.declared.region.Epoch.{Epoch}
use Rattle.pd_types.specs.declared.region.RegionBeat.{RegionBeat}
use Rattle.pd_types.specs.Keys.{is_before_end, is_below}
use Rattle.pd_types.proofs.Bools.{both, not_true, or_false, or_true}
use Rattle.pd_types.proofs.KeyLemmas.{before_end, below_upto}
use Rattle.pd_types.proofs.Pairs.{pairs_head, pairs_tail}
use Rattle.pd_types.proofs.Filters.{filter_all, find_kept, find_none}
use Rattle.region_tree.specs.Ranges.{overlaps, HasRange}
use Rattle.region_tree.specs.Standing.{stays, Precedes, AreApart, insert_by_key}
use Rattle.region_tree.specs.Stale.{removed_by, put_beat, stale_by, put_refusal, refusal_by}
use Rattle.region_tree.specs.declared.fault.RegionFault.TheVariants as faults
use Rattle.region_tree.specs.declared.table.TheConstants.{MOST_REGIONS}
use Rattle.region_tree.specs.Places.{others, IsPlace, IsIndex, IsRun}
use Rattle.region_tree.proofs.Keys.{has_range}
use Rattle.region_tree.proofs.Order.{stays_split}
use Rattle.region_tree.proofs.Rows.{keep_none, filter_twice, filter_alike}
use Rattle.region_tree.proofs.Runs.{below_then_upto, run_within, run_outside}
use Rattle.region_tree.proofs.Spots.{other_id_behind, others_some, others_none}

-- what a heartbeat displaces, by the others
and_turned : (a b : Bool) → a && b ≡ b && a
and_turned true true = refl
and_turned true false = refl
and_turned false true = refl
and_turned false false = refl

neither : (a b : Bool) → not a && not b ≡ not (a || b)
neither true b = refl
neither false b = refl

pub overlaps_others : (b : RegionBeat) (xs : List RegionBeat) → filter (overlaps b) (others b.region.id xs) ≡ removed_by b xs
overlaps_others b xs =
    filter_twice (λ one. not (nat_eq one.region.id b.region.id)) (overlaps b) xs
    ∙ filter_alike (λ one. not (nat_eq one.region.id b.region.id) && overlaps b one) (λ one. overlaps b one && not (nat_eq one.region.id b.region.id)) (λ one. and_turned (not (nat_eq one.region.id b.region.id)) (overlaps b one)) xs

pub stays_others : (b : RegionBeat) (xs : List RegionBeat) → filter (λ one. not (overlaps b one)) (others b.region.id xs) ≡ filter (stays b) xs
stays_others b xs =
    filter_twice (λ one. not (nat_eq one.region.id b.region.id)) (λ one. not (overlaps b one)) xs
    ∙ filter_alike (λ one. not (nat_eq one.region.id b.region.id) && not (overlaps b one)) (stays b) (λ one. neither (nat_eq one.region.id b.region.id) (overlaps b one)) xs

pub removed_run : (b : RegionBeat) (xs : List RegionBeat) (from upto : ℕ) → IsRun b xs from upto → others b.region.id (slice_range xs from upto) ≡ removed_by b xs
removed_run b xs from upto run = ap (others b.region.id) (run_within b xs from upto run) ∙ filter_twice (overlaps b) (λ one. not (nat_eq one.region.id b.region.id)) xs

pub run_length : (b : RegionBeat) (xs : List RegionBeat) (from upto : ℕ) → IsRun b xs from upto → upto - from ≡ length (filter (overlaps b) xs)
run_length b xs from upto run =
    let order : from ≤ upto = run.order in
    let bound : upto ≤ length xs = run.bound in
    let long : length (take (upto - from) (drop from xs)) ≡ upto - from = simp (length-take, length-drop) (omega arith) in
    sym long ∙ ap (λ (l : List RegionBeat). length l) (run_within b xs from upto run)

others_length : (xs : List RegionBeat) (id : ℕ) (own : Option ℕ) → AreApart xs → IsPlace xs id own → length (others id xs) + cond (is_some own) 1 0 ≡ length xs
others_length xs id None apart place = ap (λ (l : List RegionBeat). length l + 0) (sym (others_none xs id place)) ∙ add-zero (length xs)
others_length xs id (Some p) apart place =
    let low : p < length xs = place.0 in
    let long : length (take p xs ++ drop (p + 1) xs) + 1 ≡ length xs = simp (length-append, length-take, length-drop) (omega arith) in
    ap (λ (l : List RegionBeat). length l + 1) (sym (others_some xs p id apart place)) ∙ long

-- how many stay
pub counted : (b : RegionBeat) (xs : List RegionBeat) (own : Option ℕ) (from upto : ℕ) → AreApart xs → IsPlace xs b.region.id own → IsRun b xs from upto
    → (length xs - cond (is_some own) 1 0) - length (others b.region.id (slice_range xs from upto)) ≡ length (filter (stays b) xs)
counted b xs own from upto apart place run =
    let one = others_length xs b.region.id own apart place in
    let two = length-filter_both (overlaps b) (λ x. not (overlaps b x)) (λ x. refl) (others b.region.id xs) in
    let three : length (filter (overlaps b) (others b.region.id xs)) ≡ length (others b.region.id (slice_range xs from upto)) = ap (λ (l : List RegionBeat). length l) (overlaps_others b xs ∙ sym (removed_run b xs from upto run)) in
    let four = ap (λ (l : List RegionBeat). length l) (stays_others b xs) in
    sums _ _ _ _ _ _ one two three _ four
  where
    sums : (n own gone left kept all : ℕ) → left + own ≡ n → gone + kept ≡ left → gone ≡ all → (k : ℕ) → kept ≡ k → (n - own) - all ≡ k
    sums n own gone left kept all one two three k four = omega arith

-- the index once regions went
pub any_more : {X : Type 0} (p : X → Bool) (xs : List X) (x : X) → list_any p (xs ++ x ∷ []) ≡ list_any p xs || p x
any_more p [] x = or_none (p x)
  where
    or_none : (a : Bool) → a || false ≡ a
    or_none true = refl
    or_none false = refl
any_more p (y ∷ xs) x = ap (λ (c : Bool). p y || c) (any_more p xs x) ∙ or_assoc (p y) (list_any p xs) (p x)
  where
    or_assoc : (a b c : Bool) → a || (b || c) ≡ (a || b) || c
    or_assoc true b c = refl
    or_assoc false b c = refl

pub key_test : (q k : ℕ) → eq_by_cmp nat_cmp q k ≡ nat_eq k q
key_test q k = by (nat_lt q k) (nat_eq q k) (nat_eq k q) refl refl refl
  where
    less_not : nat_lt q k ≡ true → nat_eq k q ≡ true → ⊥
    less_not h e = grind (arith, nat_tests)

    turned : nat_eq q k ≡ true → nat_eq k q ≡ false → ⊥
    turned h e = grind (arith, nat_tests)

    back : nat_eq q k ≡ false → nat_eq k q ≡ true → ⊥
    back h e = grind (arith, nat_tests)

    by : (a b c : Bool) → nat_lt q k ≡ a → nat_eq q k ≡ b → nat_eq k q ≡ c → is_eq (cond a Less (cond b Equal Greater)) ≡ c
    by true b true l e f = absurd (less_not l f)
    by true b false l e f = refl
    by false true true l e f = refl
    by false true false l e f = absurd (turned e f)
    by false false true l e f = absurd (back e f)
    by false false false l e f = refl

pub index_step : {X : Type 0} (base old new : map.FinMap nat_cmp X) (xs : List RegionBeat) (x : RegionBeat) (id : ℕ) → id ≡ x.region.id → new ≡ map.remove old id → ((q : ℕ) → map.get old q ≡ cond (list_any (λ one. nat_eq one.region.id q) xs) None (map.get base q))
    → (q : ℕ) → map.get new q ≡ cond (list_any (λ one. nat_eq one.region.id q) (xs ++ x ∷ [])) None (map.get base q)
index_step {X = X} base old new xs x id same is kept q =
    ap (λ m. map.get m q) is ∙ map.get-remove nat_cmp_total old id q ∙ ap (λ (c : Bool). cond c None (map.get old q)) (key_test q id ∙ ap (λ n. nat_eq n q) same)
    ∙ ap (λ (o : Option X). cond (nat_eq x.region.id q) None o) (kept q) ∙ by (nat_eq x.region.id q) (list_any (λ one. nat_eq one.region.id q) xs) (map.get base q)
    ∙ ap (λ (c : Bool). cond c None (map.get base q)) (sym (any_more (λ one. nat_eq one.region.id q) xs x))
  where
    by : (a b : Bool) (o : Option X) → cond a None (cond b None o) ≡ cond (b || a) None o
    by true true o = refl
    by true false o = refl
    by false true o = refl
    by false false o = refl

-- the index once a heartbeat stands
none_any : {X : Type 0} (p q : X → Bool) (xs : List X) → ((k : ℕ) (d : X) → k < length xs → p (get_or xs k d) ≡ false) → list_any p (filter q xs) ≡ false
none_any p q [] none = refl
none_any {X = X} p q (x ∷ xs) none = by (q x) (none 0 x (omega arith)) (none_any p q xs (λ k d low. none (suc k) d (omega arith)))
  where
    by : (t : Bool) → p x ≡ false → list_any p (filter q xs) ≡ false → list_any p (cond t (x ∷ filter q xs) (filter q xs)) ≡ false
    by true here rest = ap (λ (c : Bool). c || list_any p (filter q xs)) here ∙ rest
    by false here rest = rest

-- where the test finds at most one, taking out those that another test passes takes that one, or leaves it
find_left : (o : RegionBeat → Bool) (q : ℕ) (xs : List RegionBeat) → AreApart xs → find (λ one. nat_eq one.region.id q) (filter (λ x. not (o x)) xs) ≡ cond (list_any (λ one. nat_eq one.region.id q) (filter o xs)) None (find (λ one. nat_eq one.region.id q) xs)
find_left o q [] apart = refl
find_left o q (x ∷ xs) apart = by (o x) (nat_eq x.region.id q) refl (find_left o q xs (pairs_tail Precedes x xs apart))
  where
    rest_none : nat_eq x.region.id q ≡ true → (k : ℕ) (d : RegionBeat) → k < length xs → nat_eq (get_or xs k d).region.id q ≡ false
    rest_none here k d low = other_id_behind (get_or xs k d).region.id x.region.id q (pairs_head Precedes x xs apart k d low).other_id here

    by : (s t : Bool) → nat_eq x.region.id q ≡ t → find (λ one. nat_eq one.region.id q) (filter (λ x. not (o x)) xs) ≡ cond (list_any (λ one. nat_eq one.region.id q) (filter o xs)) None (find (λ one. nat_eq one.region.id q) xs)
        → find (λ one. nat_eq one.region.id q) (cond (not s) (x ∷ filter (λ x. not (o x)) xs) (filter (λ x. not (o x)) xs)) ≡ cond (list_any (λ one. nat_eq one.region.id q) (cond s (x ∷ filter o xs) (filter o xs))) None (cond t (Some x) (find (λ one. nat_eq one.region.id q) xs))
    by true true is deep =
        deep ∙ ap (λ (p : Option RegionBeat). cond (list_any (λ one. nat_eq one.region.id q) (filter o xs)) None p) (find_none (λ one. nat_eq one.region.id q) xs (rest_none is)) ∙ both_none (list_any (λ one. nat_eq one.region.id q) (filter o xs))
        ∙ ap (λ (c : Bool). cond (c || list_any (λ one. nat_eq one.region.id q) (filter o xs)) None (Some x)) (sym is)
      where
        both_none : (c : Bool) → cond {A = Option RegionBeat} c None None ≡ None
        both_none true = refl
        both_none false = refl
    by true false is deep = deep ∙ ap (λ (c : Bool). cond (c || list_any (λ one. nat_eq one.region.id q) (filter o xs)) None (find (λ one. nat_eq one.region.id q) xs)) (sym is)
    by false true is deep =
        ap (λ (c : Bool). cond c (Some x) (find (λ one. nat_eq one.region.id q) (filter (λ x. not (o x)) xs))) is
        ∙ ap (λ (c : Bool). cond c None (Some x)) (sym (none_any (λ one. nat_eq one.region.id q) o xs (rest_none is)))
    by false false is deep = ap (λ (c : Bool). cond c (Some x) (find (λ one. nat_eq one.region.id q) (filter (λ x. not (o x)) xs))) is ∙ deep

find_insert_other : (b : RegionBeat) (q : ℕ) (xs : List RegionBeat) → nat_eq b.region.id q ≡ false → find (λ one. nat_eq one.region.id q) (insert_by_key b xs) ≡ find (λ one. nat_eq one.region.id q) xs
find_insert_other b q [] other = ap (λ (c : Bool). cond c (Some b) None) other
find_insert_other b q (x ∷ xs) other = by (is_below x.region.start b.region.start) (find_insert_other b q xs other)
  where
    by : (t : Bool) → find (λ one. nat_eq one.region.id q) (insert_by_key b xs) ≡ find (λ one. nat_eq one.region.id q) xs → find (λ one. nat_eq one.region.id q) (cond t (x ∷ insert_by_key b xs) (b ∷ x ∷ xs)) ≡ find (λ one. nat_eq one.region.id q) (x ∷ xs)
    by true deep = ap (λ (p : Option RegionBeat). cond (nat_eq x.region.id q) (Some x) p) deep
    by false deep = ap (λ (c : Bool). cond c (Some b) (find (λ one. nat_eq one.region.id q) (x ∷ xs))) other

find_insert_own : (b : RegionBeat) (q : ℕ) (xs : List RegionBeat) → nat_eq b.region.id q ≡ true → ((k : ℕ) (d : RegionBeat) → k < length xs → nat_eq (get_or xs k d).region.id q ≡ false) → find (λ one. nat_eq one.region.id q) (insert_by_key b xs) ≡ Some b
find_insert_own b q [] own none = ap (λ (c : Bool). cond c (Some b) None) own
find_insert_own b q (x ∷ xs) own none = by (is_below x.region.start b.region.start) (find_insert_own b q xs own (λ k d low. none (suc k) d (omega arith)))
  where
    by : (t : Bool) → find (λ one. nat_eq one.region.id q) (insert_by_key b xs) ≡ Some b → find (λ one. nat_eq one.region.id q) (cond t (x ∷ insert_by_key b xs) (b ∷ x ∷ xs)) ≡ Some b
    by true deep = ap (λ (c : Bool). cond c (Some x) (find (λ one. nat_eq one.region.id q) (insert_by_key b xs))) (none 0 x (omega arith)) ∙ deep
    by false deep = ap (λ (c : Bool). cond c (Some b) (find (λ one. nat_eq one.region.id q) (x ∷ xs))) own

same_id : (a b q : ℕ) → nat_eq b q ≡ true → not (nat_eq a b) ≡ true → nat_eq a q ≡ false
same_id a b q h k = grind (arith, nat_tests)

kept_id : (a b q : ℕ) → nat_eq b q ≡ false → nat_eq a q ≡ true → not (nat_eq a b) ≡ true
kept_id a b q h k = grind (arith, nat_tests)

stays_id : (b x : RegionBeat) → stays b x ≡ true → not (nat_eq x.region.id b.region.id) ≡ true
stays_id b x h = ap not (stays_split b x h).0

pub index_put : (b : RegionBeat) (xs : List RegionBeat) (before between after : map.FinMap nat_cmp (List ℕ)) → AreApart xs → IsIndex before xs → between ≡ map.insert before b.region.id b.region.start
    → ((q : ℕ) → map.get after q ≡ cond (list_any (λ one. nat_eq one.region.id q) (removed_by b xs)) None (map.get between q)) → IsIndex after (put_beat b xs)
index_put b xs before between after apart index put gone q = by (nat_eq b.region.id q) refl
  where
    written : map.get between q ≡ cond (nat_eq b.region.id q) (Some b.region.start) (map.get before q)
    written = ap (λ m. map.get m q) put ∙ map.get-insert nat_cmp_total before b.region.id b.region.start q ∙ ap (λ (c : Bool). cond c (Some b.region.start) (map.get before q)) (key_test q b.region.id)

    by : (t : Bool) → nat_eq b.region.id q ≡ t → map.get after q ≡ option_map (λ one. one.region.start) (find (λ one. nat_eq one.region.id q) (put_beat b xs))
    by true own =
        gone q ∙ ap (λ (c : Bool). cond c None (map.get between q)) none_gone ∙ written ∙ ap (λ (c : Bool). cond c (Some b.region.start) (map.get before q)) own
        ∙ ap (option_map (λ (one : RegionBeat). one.region.start)) (sym (find_insert_own b q (filter (stays b) xs) own (λ k d low. same_id _ b.region.id q own (stays_id b (get_or (filter (stays b) xs) k d) (filter_passes (stays b) xs k d low)))))
      where
        none_gone : list_any (λ one. nat_eq one.region.id q) (removed_by b xs) ≡ false
        none_gone =
            ap (list_any (λ (one : RegionBeat). nat_eq one.region.id q)) (sym (overlaps_others b xs))
            ∙ none_any (λ one. nat_eq one.region.id q) (overlaps b) (others b.region.id xs) (λ k d low. same_id (get_or (others b.region.id xs) k d).region.id b.region.id q own (filter_passes (λ one. not (nat_eq one.region.id b.region.id)) xs k d low))
    by false other =
        gone q ∙ ap (λ (o : Option (List ℕ)). cond (list_any (λ one. nat_eq one.region.id q) (removed_by b xs)) None o) (written ∙ ap (λ (c : Bool). cond c (Some b.region.start) (map.get before q)) other ∙ index q)
        ∙ mapped (list_any (λ one. nat_eq one.region.id q) (removed_by b xs)) (find (λ one. nat_eq one.region.id q) xs)
        ∙ ap (option_map (λ (one : RegionBeat). one.region.start)) (sym (find_insert_other b q (filter (stays b) xs) other ∙ left))
      where
        mapped : (c : Bool) (o : Option RegionBeat) → cond c None (option_map (λ (one : RegionBeat). one.region.start) o) ≡ option_map (λ (one : RegionBeat). one.region.start) (cond c None o)
        mapped true o = refl
        mapped false o = refl

        left : find (λ one. nat_eq one.region.id q) (filter (stays b) xs) ≡ cond (list_any (λ one. nat_eq one.region.id q) (removed_by b xs)) None (find (λ one. nat_eq one.region.id q) xs)
        left =
            ap (find (λ (one : RegionBeat). nat_eq one.region.id q)) (sym (stays_others b xs))
            ∙ find_left (overlaps b) q (others b.region.id xs) (AllPairs-filter Precedes (λ one. not (nat_eq one.region.id b.region.id)) xs apart)
            ∙ ap (λ (l : List RegionBeat). cond (list_any (λ one. nat_eq one.region.id q) l) None (find (λ one. nat_eq one.region.id q) (others b.region.id xs))) (overlaps_others b xs)
            ∙ ap (λ (o : Option RegionBeat). cond (list_any (λ one. nat_eq one.region.id q) (removed_by b xs)) None o) (find_kept (λ one. nat_eq one.region.id q) (λ one. not (nat_eq one.region.id b.region.id)) (λ x h. kept_id x.region.id b.region.id q other h) xs)

-- a heartbeat that is put is the region of its id
pub found_put : (b : RegionBeat) (xs : List RegionBeat) → find (λ one. nat_eq one.region.id b.region.id) (put_beat b xs) ≡ Some b
found_put b xs = find_insert_own b b.region.id (filter (stays b) xs) (same_self b.region.id) (λ k d low. not_true _ (stays_id b (get_or (filter (stays b) xs) k d) (filter_passes (stays b) xs k d low)))
  where
    same_self : (n : ℕ) → nat_eq n n ≡ true
    same_self n = grind (arith, nat_tests)

-- the count that the code makes
pub staying_is : (b : RegionBeat) (xs : List RegionBeat) (own : Option ℕ) (from upto n gone k : ℕ) → AreApart xs → IsPlace xs b.region.id own → IsRun b xs from upto
    → gone ≡ length (removed_by b xs) → n ≡ length xs → k ≡ (n - cond (is_some own) 1 0) - gone → k ≡ length (filter (stays b) xs)
staying_is b xs own from upto n gone k apart place run gone_is n_is k_is =
    k_is ∙ ap (λ (m : ℕ). (m - cond (is_some own) 1 0) - gone) n_is
    ∙ ap (λ (g : ℕ). (length xs - cond (is_some own) 1 0) - g) (gone_is ∙ ap (λ (l : List RegionBeat). length l) (sym (removed_run b xs from upto run)))
    ∙ counted b xs own from upto apart place run

above : (m n k : ℕ) → m ≤ k → k ≡ n → nat_lt m (n + 1) ≡ true
above m n k high is = grind (arith, nat_tests)

within_limit : (m n k : ℕ) → k < m → k ≡ n → nat_lt m (n + 1) ≡ false
within_limit m n k low is = grind (arith, nat_tests)

pub limit_refused : (b : RegionBeat) (xs : List RegionBeat) (k : ℕ) → stale_by b xs ≡ None → MOST_REGIONS ≤ k → k ≡ length (filter (stays b) xs) → put_refusal b xs ≡ Some faults.Limit
limit_refused b xs k fresh high is = ap (λ (o : Option Epoch). refusal_by o b xs) fresh ∙ ap (λ (t : Bool). cond t (Some faults.Limit) None) (above MOST_REGIONS (length (filter (stays b) xs)) k high is)

pub not_refused : (b : RegionBeat) (xs : List RegionBeat) (k : ℕ) → stale_by b xs ≡ None → k < MOST_REGIONS → k ≡ length (filter (stays b) xs) → put_refusal b xs ≡ None
not_refused b xs k fresh low is = ap (λ (o : Option Epoch). refusal_by o b xs) fresh ∙ ap (λ (t : Bool). cond t (Some faults.Limit) None) (within_limit MOST_REGIONS (length (filter (stays b) xs)) k low is)

-- moving a row out
pub no_room : {X : Type 0} (xs ys zs all : List X) (x : X) (n len cap : ℕ) → xs ++ ys ≡ all → ys ≡ x ∷ zs → length all ≤ n → len ≡ length xs → n ≤ cap → cap ≤ len → ⊥
no_room xs ys zs all x n len cap e ys_is most len_is fits full =
    let a : length xs + length ys ≡ length all = sym (length-append xs ys) ∙ ap (λ (l : List _). length l) e in
    let b : length ys ≡ suc (length zs) = ap (λ (l : List _). length l) ys_is in
    omega arith

pub slice_short : {X : Type 0} (xs : List X) (from upto : ℕ) → length (slice_range xs from upto) ≤ upto - from
slice_short xs from upto = simp length-take (omega arith)

pub shifted : {X : Type 0} (new xs ys zs all : List X) (x y : X) → new ≡ xs ++ y ∷ [] → y ≡ x → ys ≡ x ∷ zs → xs ++ ys ≡ all → new ++ zs ≡ all
shifted {X = X} new xs ys zs all x y new_is same ys_is e =
    ap (λ (l : List X). l ++ zs) new_is ∙ append_assoc xs (y ∷ []) zs ∙ ap (λ (z : X). xs ++ z ∷ zs) same ∙ ap (λ (l : List X). xs ++ l) (sym ys_is) ∙ e

-- a heartbeat in the place of its own region, where it overlaps no other
pub starts_low : (key : List ℕ) (x : RegionBeat) → HasRange x → is_before_end key x.region.end ≡ false → is_below x.region.start key ≡ true
starts_low key x range past = by (or_true (nat_eq (length x.region.end) 0) (is_below x.region.start x.region.end) (has_range x range)) (or_false (nat_eq (length x.region.end) 0) (is_below key x.region.end) past)
  where
    by : (nat_eq (length x.region.end) 0 ≡ true) ⊎ (is_below x.region.start x.region.end ≡ true) → (nat_eq (length x.region.end) 0 ≡ false) × (is_below key x.region.end ≡ false) → is_below x.region.start key ≡ true
    by (inl none) parts = absurd (both none parts.0)
    by (inr less) parts = below_then_upto x.region.start x.region.end key less parts.1

pub starts_high : (b x : RegionBeat) → HasRange b → is_before_end x.region.start b.region.end ≡ false → is_below x.region.start b.region.start ≡ false
starts_high b x range past = by (cases_Bool (is_below x.region.start b.region.start))
  where
    by : (is_below x.region.start b.region.start ≡ true) ⊎ (is_below x.region.start b.region.start ≡ false) → is_below x.region.start b.region.start ≡ false
    by (inr other) = other
    by (inl less) = absurd (both (before_end x.region.start b.region.start b.region.end (below_upto x.region.start b.region.start less) (has_range b range)) past)

insert_between : (b : RegionBeat) (p : ℕ) (xs : List RegionBeat) → p < length xs → ((k : ℕ) (d : RegionBeat) → k < p → k < length xs → is_below (get_or xs k d).region.start b.region.start ≡ true) → ((k : ℕ) (d : RegionBeat) → p < k → k < length xs → is_below (get_or xs k d).region.start b.region.start ≡ false)
    → insert_by_key b (take p xs ++ drop (suc p) xs) ≡ set xs p b
insert_between b p [] low before after = absurd (omega arith)
insert_between b zero (x ∷ []) low before after = refl
insert_between b zero (x ∷ y ∷ xs) low before after = ap (λ (t : Bool). cond t (y ∷ insert_by_key b xs) (b ∷ y ∷ xs)) (after 1 x (omega arith) (omega arith))
insert_between b (suc p) (x ∷ xs) low before after =
    ap (λ (t : Bool). cond t (x ∷ insert_by_key b (take p xs ++ drop (suc p) xs)) (b ∷ x ∷ (take p xs ++ drop (suc p) xs))) (before 0 x (omega arith) (omega arith))
    ∙ ap (λ (l : List RegionBeat). x ∷ l) (insert_between b p xs (omega arith) (λ k d less within. before (suc k) d (omega arith) (omega arith)) (λ k d less within. after (suc k) d (omega arith) (omega arith)))

pub in_place : (b : RegionBeat) (xs : List RegionBeat) (p : ℕ) → AreApart xs → All HasRange xs → HasRange b → IsPlace xs b.region.id (Some p) → IsRun b xs p (p + 1) → put_beat b xs ≡ set xs p b
in_place b xs p apart ranges range place run =
    let low : p < length xs = place.0 in
    let kept : filter (stays b) xs ≡ remove_range xs p (p + 1) =
    sym (stays_others b xs) ∙ ap (λ (l : List RegionBeat). filter (λ one. not (overlaps b one)) l) (sym (others_some xs p b.region.id apart place) ∙ run_outside b xs p (p + 1) run)
    ∙ filter_all (λ one. not (overlaps b one)) (filter (λ one. not (overlaps b one)) xs) (filter_passes (λ one. not (overlaps b one)) xs) ∙ sym (run_outside b xs p (p + 1) run)
    in
    ap (insert_by_key b) kept ∙ ap (λ (n : ℕ). insert_by_key b (take p xs ++ drop n xs)) (add-one p)
    ∙ insert_between b p xs low (λ k d less within. starts_low b.region.start (get_or xs k d) (ranges k d within) (run.before k d less within)) (λ k d less within. starts_high b (get_or xs k d) range (run.behind k d (omega arith) within))

pub none_removed : (b : RegionBeat) (xs : List RegionBeat) (p : ℕ) → AreApart xs → IsPlace xs b.region.id (Some p) → IsRun b xs p (p + 1) → removed_by b xs ≡ []
none_removed b xs p apart place run =
    sym (overlaps_others b xs) ∙ ap (λ (l : List RegionBeat). filter (overlaps b) l) (sym (others_some xs p b.region.id apart place) ∙ run_outside b xs p (p + 1) run)
    ∙ keep_none (overlaps b) (filter (λ one. not (overlaps b one)) xs) (λ k d low. not_true (overlaps b (get_or (filter (λ one. not (overlaps b one)) xs) k d)) (filter_passes (λ one. not (overlaps b one)) xs k d low))
