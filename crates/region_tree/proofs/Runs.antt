-- The regions that a heartbeat overlaps stand in a row.
use Rattle.std.proofs.Common.{◌≡◌, ℕ, ◌<◌, ◌≤◌, true, false, not, nat_eq, List, length, get_or, ap, sym, subst, arith, ◌⊎◌, inl, inr}
use Rattle.std.proofs.lemmas.Bool.{cases_eq, cases_Bool}
use Rattle.std.specs.List.{filter, All, slice_range, remove_range}
use Rattle.std.specs.List.Sorted.{IsPartitionedBy}
use Rattle.pd_types.specs.declared.region.RegionBeat.{RegionBeat}
use Rattle.pd_types.specs.Keys.{is_before_end, is_below}
use Rattle.pd_types.proofs.Bools.{and_both, and_left, and_right, and_true, both, not_true, or_true}
use Rattle.pd_types.proofs.KeyLemmas.{before_end, below_upto, upto_trans}
use Rattle.region_tree.specs.Ranges.{overlaps, HasRange, ends_before}
use Rattle.region_tree.specs.Standing.{AreApart}
use Rattle.region_tree.specs.Places.{IsRun}
use Rattle.region_tree.proofs.Keys.{has_range, ends_below}
use Rattle.region_tree.proofs.Rows.{row_within, row_outside}

-- a below b, and b at most c
pub below_then_upto : (a b c : List ℕ) → is_below a b ≡ true → is_below c b ≡ false → is_below a c ≡ true
below_then_upto a b c less upto = by (cases_Bool (is_below a c))
  where
    by : (is_below a c ≡ true) ⊎ (is_below a c ≡ false) → is_below a c ≡ true
    by (inl known) = known
    by (inr other) = absurd (both less (upto_trans b c a upto other))

-- where one region ends before another begins that ends at or before a key, it ends there too
ended_before : (key : List ℕ) (one other : RegionBeat) → HasRange other → ends_before one other ≡ true → not (is_before_end key other.region.end) ≡ true → not (is_before_end key one.region.end) ≡ true
ended_before key one other range ends past = by (cases_Bool (is_before_end key one.region.end)) (and_true (not (nat_eq (length one.region.end) 0)) (not (is_below other.region.start one.region.end)) ends)
  where
    deep : not (nat_eq (length one.region.end) 0) ≡ true → not (is_below other.region.start one.region.end) ≡ true → (nat_eq (length one.region.end) 0 ≡ true) ⊎ (is_below key one.region.end ≡ true) → ⊥
    deep some upto (inl none) = both none (not_true (nat_eq (length one.region.end) 0) some)
    deep some upto (inr less) =
        let below = below_then_upto key one.region.end other.region.start less (not_true (is_below other.region.start one.region.end) upto) in
        both (before_end key other.region.start other.region.end (below_upto key other.region.start below) (has_range other range)) (not_true (is_before_end key other.region.end) past)

    by : (is_before_end key one.region.end ≡ true) ⊎ (is_before_end key one.region.end ≡ false) → (not (nat_eq (length one.region.end) 0) ≡ true) × (not (is_below other.region.start one.region.end) ≡ true) → not (is_before_end key one.region.end) ≡ true
    by (inr other) parts = ap not other
    by (inl known) parts = absurd (deep parts.0 parts.1 (or_true (nat_eq (length one.region.end) 0) (is_below key one.region.end) known))

pub ended_parted : (key : List ℕ) (xs : List RegionBeat) → AreApart xs → All HasRange xs → IsPartitionedBy (λ one. not (is_before_end key one.region.end)) xs
ended_parted key xs apart ranges i j d not_after inside passes = from_cases (cases_eq i j)
  where
    from_cases : (i ≡ j) ⊎ (i ≡ j → ⊥) → not (is_before_end key (get_or xs i d).region.end) ≡ true
    from_cases (inl same) = subst (λ k. not (is_before_end key (get_or xs k d).region.end) ≡ true) (sym same) passes
    from_cases (inr other) = ended_before key (get_or xs i d) (get_or xs j d) (ranges j d inside) (apart i j d (omega arith) inside).ends passes

-- the starts rise
pub rising : (xs : List RegionBeat) → AreApart xs → All HasRange xs → (i j : ℕ) (d : RegionBeat) → i < j → j < length xs → is_below (get_or xs i d).region.start (get_or xs j d).region.start ≡ true
rising xs apart ranges i j d less inside = ends_below (get_or xs i d) (get_or xs j d) (ranges i d (omega arith)) (apart i j d less inside).ends

pub begun_parted : (end : List ℕ) (xs : List RegionBeat) → AreApart xs → All HasRange xs → IsPartitionedBy (λ one. is_before_end one.region.start end) xs
begun_parted end xs apart ranges i j d not_after inside passes = from_cases (cases_eq i j)
  where
    from_cases : (i ≡ j) ⊎ (i ≡ j → ⊥) → is_before_end (get_or xs i d).region.start end ≡ true
    from_cases (inl same) = subst (λ k. is_before_end (get_or xs k d).region.start end ≡ true) (sym same) passes
    from_cases (inr other) = before_end (get_or xs i d).region.start (get_or xs j d).region.start end (below_upto (get_or xs i d).region.start (get_or xs j d).region.start (rising xs apart ranges i j d (omega arith) inside)) passes

pub upto_parted : (key : List ℕ) (xs : List RegionBeat) → AreApart xs → All HasRange xs → IsPartitionedBy (λ one. not (is_below key one.region.start)) xs
upto_parted key xs apart ranges i j d not_after inside passes = from_cases (cases_eq i j)
  where
    from_cases : (i ≡ j) ⊎ (i ≡ j → ⊥) → not (is_below key (get_or xs i d).region.start) ≡ true
    from_cases (inl same) = subst (λ k. not (is_below key (get_or xs k d).region.start) ≡ true) (sym same) passes
    from_cases (inr other) = ap not (upto_trans (get_or xs i d).region.start (get_or xs j d).region.start key (below_upto (get_or xs i d).region.start (get_or xs j d).region.start (rising xs apart ranges i j d (omega arith) inside)) (not_true (is_below key (get_or xs j d).region.start) passes))

-- the run of the regions that a heartbeat overlaps
pub run_is : (b : RegionBeat) (xs : List RegionBeat) (from begun upto : ℕ) → from ≤ length xs → begun ≤ length xs → upto ≤ length xs → from ≤ upto → begun ≤ upto → ((k : ℕ) → k < upto → from ≤ k → k < begun)
    → ((k : ℕ) (d : RegionBeat) → k < from → is_before_end b.region.start (get_or xs k d).region.end ≡ false) → ((k : ℕ) (d : RegionBeat) → from ≤ k → k < length xs → is_before_end b.region.start (get_or xs k d).region.end ≡ true)
    → ((k : ℕ) (d : RegionBeat) → k < begun → is_before_end (get_or xs k d).region.start b.region.end ≡ true) → ((k : ℕ) (d : RegionBeat) → begun ≤ k → k < length xs → is_before_end (get_or xs k d).region.start b.region.end ≡ false) → IsRun b xs from upto
run_is b xs from begun upto low mid high order more less before after first second = record {
  order = order;
  bound = high;
  before = λ k d low within. before k d low;
  inside = λ k d low high within. and_both (is_before_end b.region.start (get_or xs k d).region.end) (is_before_end (get_or xs k d).region.start b.region.end) (after k d low within) (first k d (less k high low));
  behind = λ k d low within. second k d (omega arith) within;
}

module _ (b : RegionBeat) (xs : List RegionBeat) (from upto : ℕ) (run : IsRun b xs from upto) where
  low_fails : (k : ℕ) (d : RegionBeat) → k < from → k < length xs → overlaps b (get_or xs k d) ≡ false
  low_fails k d low within = and_left (is_before_end b.region.start (get_or xs k d).region.end) (is_before_end (get_or xs k d).region.start b.region.end) (run.before k d low within)

  high_fails : (k : ℕ) (d : RegionBeat) → upto ≤ k → k < length xs → overlaps b (get_or xs k d) ≡ false
  high_fails k d low within = and_right (is_before_end b.region.start (get_or xs k d).region.end) (is_before_end (get_or xs k d).region.start b.region.end) (run.behind k d low within)

  pub run_within : slice_range xs from upto ≡ filter (overlaps b) xs
  run_within = row_within (overlaps b) from upto xs run.order low_fails run.inside high_fails

  pub run_outside : remove_range xs from upto ≡ filter (λ one. not (overlaps b one)) xs
  run_outside = row_outside (overlaps b) from upto xs run.order low_fails run.inside high_fails
