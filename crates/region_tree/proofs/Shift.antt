-- The run of the regions that a heartbeat overlaps, once the region of its own id is gone, and the heartbeat in its place.
use Rattle.std.proofs.Common.{refl, ◌≡◌, ℕ, ◌+◌, ◌-◌, ◌<◌, ◌≤◌, Bool, true, false, not, cond, nat_eq, nat_lt, List, length, get_or, take, drop, ap, sym, ◌∙◌, subst, Option, Some, None, arith, ◌⊎◌, inl, inr, length-take, length-drop, length-append}
use Rattle.std.proofs.lemmas.Bool.Decides.{nat_tests}
use Rattle.std.proofs.lemmas.List.{get_or_append_left, get_or-append_right, get_or-take, get_or-drop}
use Rattle.std.proofs.lemmas.List.Elements.{All-filter}
use Rattle.std.specs.List.{filter, insert, slice_range, remove_range, All}
use Rattle.pd_types.specs.declared.region.RegionBeat.{RegionBeat}
use Rattle.pd_types.specs.Keys.{is_before_end, is_below}
use Rattle.region_tree.specs.Ranges.{overlaps, HasRange}
use Rattle.region_tree.specs.Standing.{AreApart, insert_by_key}
use Rattle.region_tree.specs.Places.{others, shifted, IsPlace, IsRun}
use Rattle.region_tree.specs.Stale.{put_beat, removed_by}
use Rattle.region_tree.proofs.Order.{insert_at}
use Rattle.region_tree.proofs.Rows.{lt_or}
use Rattle.region_tree.proofs.Puts.{starts_low, starts_high, run_length, overlaps_others, stays_others}
use Rattle.region_tree.proofs.Runs.{run_within, run_outside}
use Rattle.region_tree.proofs.Spots.{others_some, others_none}

-- reading a list that lost some places
get_below : {X : Type 0} (xs : List X) (from upto k : ℕ) (d : X) → k < from → from ≤ length xs → get_or (remove_range xs from upto) k d ≡ get_or xs k d
get_below xs from upto k d low bound =
    let long : length (take from xs) ≡ from = simp length-take (omega arith) in
    get_or_append_left (take from xs) (drop upto xs) d k (omega (arith, long)) ∙ get_or-take from xs k d low

get_behind : {X : Type 0} (xs : List X) (from upto k : ℕ) (d : X) → from ≤ k → from ≤ length xs → get_or (remove_range xs from upto) k d ≡ get_or xs (upto + (k - from)) d
get_behind xs from upto k d high bound =
    let long : length (take from xs) ≡ from = simp length-take (omega arith) in
    get_or-append_right (take from xs) (drop upto xs) from k d long high ∙ get_or-drop upto xs (k - from) d

left_length : {X : Type 0} (xs : List X) (from upto : ℕ) → from ≤ upto → upto ≤ length xs → length (remove_range xs from upto) + (upto - from) ≡ length xs
left_length xs from upto order bound = simp (length-append, length-take, length-drop) (omega arith)

-- a place moves down by one where it stands behind the one that went
abbrev down : ℕ → ℕ → ℕ
down p n = n - cond (nat_lt p n) 1 0

down_is : (p n : ℕ) → (p < n) × (down p n + 1 ≡ n) ⊎ (n ≤ p) × (down p n ≡ n)
down_is p n = by (nat_lt p n) refl
  where
    by : (t : Bool) → nat_lt p n ≡ t → (p < n) × (n - cond t 1 0 + 1 ≡ n) ⊎ (n ≤ p) × (n - cond t 1 0 ≡ n)
    by true is = let less : p < n = grind (arith, nat_tests) in inl (less, omega arith)
    by false is = let more : n ≤ p = grind (arith, nat_tests) in inr (more, omega arith)

low_before : (p n k : ℕ) → k < down p n → k < p → k < n
low_before p n k low less = by (down_is p n)
  where
    by : (p < n) × (down p n + 1 ≡ n) ⊎ (n ≤ p) × (down p n ≡ n) → k < n
    by (inl (h, is)) = omega (arith, is)
    by (inr (h, is)) = omega (arith, is)

low_behind : (p n k : ℕ) → k < down p n → p ≤ k → p + 1 + (k - p) < n
low_behind p n k low more = by (down_is p n)
  where
    by : (p < n) × (down p n + 1 ≡ n) ⊎ (n ≤ p) × (down p n ≡ n) → p + 1 + (k - p) < n
    by (inl (h, is)) = omega (arith, is)
    by (inr (h, is)) = omega (arith, is)

high_before : (p n k : ℕ) → down p n ≤ k → k < p → n ≤ k
high_before p n k high less = by (down_is p n)
  where
    by : (p < n) × (down p n + 1 ≡ n) ⊎ (n ≤ p) × (down p n ≡ n) → n ≤ k
    by (inl (h, is)) = omega (arith, is)
    by (inr (h, is)) = omega (arith, is)

high_behind : (p n k : ℕ) → down p n ≤ k → p ≤ k → n ≤ p + 1 + (k - p)
high_behind p n k high more = by (down_is p n)
  where
    by : (p < n) × (down p n + 1 ≡ n) ⊎ (n ≤ p) × (down p n ≡ n) → n ≤ p + 1 + (k - p)
    by (inl (h, is)) = omega (arith, is)
    by (inr (h, is)) = omega (arith, is)

down_order : (p m n : ℕ) → m ≤ n → down p m ≤ down p n
down_order p m n order = by (down_is p m) (down_is p n)
  where
    by : (p < m) × (down p m + 1 ≡ m) ⊎ (m ≤ p) × (down p m ≡ m) → (p < n) × (down p n + 1 ≡ n) ⊎ (n ≤ p) × (down p n ≡ n) → down p m ≤ down p n
    by (inl (h, is)) (inl (k, so)) = omega (arith, is, so)
    by (inl (h, is)) (inr (k, so)) = omega (arith, is, so)
    by (inr (h, is)) (inl (k, so)) = omega (arith, is, so)
    by (inr (h, is)) (inr (k, so)) = omega (arith, is, so)

down_bound : (p n long : ℕ) → p < long + 1 → n ≤ long + 1 → down p n ≤ long
down_bound p n long place bound = by (down_is p n)
  where
    by : (p < n) × (down p n + 1 ≡ n) ⊎ (n ≤ p) × (down p n ≡ n) → down p n ≤ long
    by (inl (h, is)) = omega (arith, is)
    by (inr (h, is)) = omega (arith, is)

module _ (b : RegionBeat) (xs : List RegionBeat) (p from upto : ℕ) (place : p < length xs) (run : IsRun b xs from upto) where
  long : length (remove_range xs p (p + 1)) + 1 ≡ length xs
  long =
      let one : p + 1 - p ≡ 1 = omega arith in
      ap (λ n. length (remove_range xs p (p + 1)) + n) (sym one) ∙ left_length xs p (p + 1) (omega arith) (omega arith)

  before : (k : ℕ) (d : RegionBeat) → k < down p from → k < length (remove_range xs p (p + 1)) → is_before_end b.region.start (get_or (remove_range xs p (p + 1)) k d).region.end ≡ false
  before k d low within = by (lt_or k p)
    where
      by : (k < p) ⊎ (p ≤ k) → is_before_end b.region.start (get_or (remove_range xs p (p + 1)) k d).region.end ≡ false
      by (inl less) = subst (λ (x : RegionBeat). is_before_end b.region.start x.region.end ≡ false) (sym (get_below xs p (p + 1) k d less (omega arith))) (run.before k d (low_before p from k low less) (omega arith))
      by (inr more) = subst (λ (x : RegionBeat). is_before_end b.region.start x.region.end ≡ false) (sym (get_behind xs p (p + 1) k d more (omega arith))) (run.before (p + 1 + (k - p)) d (low_behind p from k low more) (omega (arith, long)))

  inside : (k : ℕ) (d : RegionBeat) → down p from ≤ k → k < down p upto → k < length (remove_range xs p (p + 1)) → overlaps b (get_or (remove_range xs p (p + 1)) k d) ≡ true
  inside k d high low within = by (lt_or k p)
    where
      by : (k < p) ⊎ (p ≤ k) → overlaps b (get_or (remove_range xs p (p + 1)) k d) ≡ true
      by (inl less) = subst (λ (x : RegionBeat). overlaps b x ≡ true) (sym (get_below xs p (p + 1) k d less (omega arith))) (run.inside k d (high_before p from k high less) (low_before p upto k low less) (omega arith))
      by (inr more) = subst (λ (x : RegionBeat). overlaps b x ≡ true) (sym (get_behind xs p (p + 1) k d more (omega arith))) (run.inside (p + 1 + (k - p)) d (high_behind p from k high more) (low_behind p upto k low more) (omega (arith, long)))

  behind : (k : ℕ) (d : RegionBeat) → down p upto ≤ k → k < length (remove_range xs p (p + 1)) → is_before_end (get_or (remove_range xs p (p + 1)) k d).region.start b.region.end ≡ false
  behind k d high within = by (lt_or k p)
    where
      by : (k < p) ⊎ (p ≤ k) → is_before_end (get_or (remove_range xs p (p + 1)) k d).region.start b.region.end ≡ false
      by (inl less) = subst (λ (x : RegionBeat). is_before_end x.region.start b.region.end ≡ false) (sym (get_below xs p (p + 1) k d less (omega arith))) (run.behind k d (high_before p upto k high less) (omega arith))
      by (inr more) = subst (λ (x : RegionBeat). is_before_end x.region.start b.region.end ≡ false) (sym (get_behind xs p (p + 1) k d more (omega arith))) (run.behind (p + 1 + (k - p)) d (high_behind p upto k high more) (omega (arith, long)))

  left_run : IsRun b (remove_range xs p (p + 1)) (down p from) (down p upto)
  left_run = record {
    order = down_order p from upto run.order;
    bound = down_bound p upto (length (remove_range xs p (p + 1))) (omega (arith, long)) (let most = run.bound in omega (arith, long, most));
    before = before;
    inside = inside;
    behind = behind;
  }

pub run_shifted : (b : RegionBeat) (xs : List RegionBeat) (own : Option ℕ) (from upto : ℕ) → AreApart xs → IsPlace xs b.region.id own → IsRun b xs from upto → IsRun b (others b.region.id xs) (shifted own from) (shifted own upto)
run_shifted b xs None from upto apart place run = subst (λ (l : List RegionBeat). IsRun b l from upto) (others_none xs b.region.id place) run
run_shifted b xs (Some p) from upto apart place run =
    subst (λ (l : List RegionBeat). IsRun b l (down p from) (down p upto)) (others_some xs p b.region.id apart place) (left_run b xs p from upto place.0 run)

-- the heartbeat stands where the run was
pub insert_run : (b : RegionBeat) (xs : List RegionBeat) (from upto : ℕ) → HasRange b → All HasRange xs → IsRun b xs from upto → insert_by_key b (remove_range xs from upto) ≡ insert (remove_range xs from upto) from b
insert_run b xs from upto range ranges run =
    let order = run.order in
    let bound = run.bound in
    let long = left_length xs from upto order bound in
    insert_at b (remove_range xs from upto) from (omega (arith, long, order))
    (λ k d low. subst (λ (x : RegionBeat). is_below x.region.start b.region.start ≡ true) (sym (get_below xs from upto k d low (omega (arith, order, bound)))) (starts_low b.region.start (get_or xs k d) (ranges k d (omega (arith, order, bound))) (run.before k d low (omega (arith, order, bound)))))
    (λ k d high within. subst (λ (x : RegionBeat). is_below x.region.start b.region.start ≡ false) (sym (get_behind xs from upto k d high (omega (arith, order, bound))))
    (starts_high b (get_or xs (upto + (k - from)) d) range (run.behind (upto + (k - from)) d (omega arith) (omega (arith, long, within, order)))))

-- what is left and what went, where the regions of other ids lose the run
module _ (b : RegionBeat) (xs held : List RegionBeat) (from upto : ℕ) (others_are : held ≡ others b.region.id xs) where
  pub run_left : (own : Option ℕ) (f u : ℕ) → AreApart xs → IsPlace xs b.region.id own → IsRun b xs f u → from ≡ shifted own f → upto ≡ shifted own u → IsRun b held from upto
  run_left own f u apart place run from_is upto_is =
      subst (λ (l : List RegionBeat). IsRun b l from upto) (sym others_are)
      (subst (λ n. IsRun b (others b.region.id xs) n upto) (sym from_is) (subst (λ n. IsRun b (others b.region.id xs) (shifted own f) n) (sym upto_is) (run_shifted b xs own f u apart place run)))

  pub put_is : HasRange b → All HasRange xs → IsRun b held from upto → insert (remove_range held from upto) from b ≡ put_beat b xs
  put_is range ranges run =
      sym (insert_run b held from upto range (subst (All HasRange) (sym others_are) (All-filter (λ one. not (nat_eq one.region.id b.region.id)) HasRange xs ranges)) run)
      ∙ ap (insert_by_key b) (run_outside b held from upto run ∙ ap (λ (l : List RegionBeat). filter (λ one. not (overlaps b one)) l) others_are ∙ stays_others b xs)

  pub gone_is : IsRun b held from upto → slice_range held from upto ≡ removed_by b xs
  gone_is run = run_within b held from upto run ∙ ap (filter (overlaps b)) others_are ∙ overlaps_others b xs

  pub gone_length : IsRun b held from upto → upto - from ≡ length (removed_by b xs)
  gone_length run = run_length b held from upto run ∙ ap (λ (l : List RegionBeat). length (filter (overlaps b) l)) others_are ∙ ap (λ (l : List RegionBeat). length l) (overlaps_others b xs)

  pub at_left : IsRun b held from upto → from ≤ length (remove_range held from upto)
  at_left run =
      let order = run.order in
      let bound = run.bound in
      let long = left_length held from upto order bound in
      omega (arith, long, order, bound)
