-- Counts over the regions, once a heartbeat stands.
use Rattle.std.proofs.Common.{refl, ◌≡◌, ℕ, ◌+◌, ◌<◌, Bool, true, false, not, cond, nat_eq, List, [], ◌∷◌, length, get_or, count_by, ap, ◌∙◌, Some, arith, add-zero}
use Rattle.std.proofs.lemmas.List.Sums.{sum_by-cons}
use Rattle.std.specs.List.{filter, find}
use Rattle.std.specs.Option.{option_map_or}
use Rattle.pd_types.specs.declared.region.RegionBeat.{RegionBeat}
use Rattle.pd_types.specs.Keys.{is_below}
use Rattle.pd_types.proofs.Pairs.{pairs_head, pairs_tail}
use Rattle.region_tree.specs.Ranges.{overlaps}
use Rattle.region_tree.specs.Standing.{stays, Precedes, AreApart, insert_by_key}
use Rattle.region_tree.specs.Stale.{put_beat}
use Rattle.region_tree.specs.Moves.{CountMoves}
use Rattle.region_tree.specs.Places.{others}
use Rattle.region_tree.proofs.Rows.{keep_none}
use Rattle.region_tree.proofs.Puts.{overlaps_others, stays_others}
use Rattle.region_tree.proofs.Spots.{other_id_behind}

abbrev one_if : Bool → ℕ
one_if b = cond b 1 0

count_cons : (p : RegionBeat → Bool) (x : RegionBeat) (xs : List RegionBeat) → count_by p (x ∷ xs) ≡ one_if (p x) + count_by p xs
count_cons p x xs = sum_by-cons (λ x. cond (p x) 1 0) x xs

count_insert : (p : RegionBeat → Bool) (b : RegionBeat) (xs : List RegionBeat) → count_by p (insert_by_key b xs) ≡ one_if (p b) + count_by p xs
count_insert p b [] = count_cons p b []
count_insert p b (x ∷ xs) = by (is_below x.region.start b.region.start) (count_insert p b xs)
  where
    by : (t : Bool) → count_by p (insert_by_key b xs) ≡ one_if (p b) + count_by p xs → count_by p (cond t (x ∷ insert_by_key b xs) (b ∷ x ∷ xs)) ≡ one_if (p b) + count_by p (x ∷ xs)
    by true deep = let one = count_cons p x (insert_by_key b xs) in let two = count_cons p x xs in omega (arith, one, two, deep)
    by false deep = count_cons p b (x ∷ xs)

count_parts : (p q : RegionBeat → Bool) (xs : List RegionBeat) → count_by p (filter q xs) + count_by p (filter (λ x. not (q x)) xs) ≡ count_by p xs
count_parts p q [] = refl
count_parts p q (x ∷ xs) = by (q x) (count_parts p q xs)
  where
    by : (t : Bool) → count_by p (filter q xs) + count_by p (filter (λ x. not (q x)) xs) ≡ count_by p xs
        → count_by p (cond t (x ∷ filter q xs) (filter q xs)) + count_by p (cond (not t) (x ∷ filter (λ x. not (q x)) xs) (filter (λ x. not (q x)) xs)) ≡ count_by p (x ∷ xs)
    by true deep = let one = count_cons p x (filter q xs) in let two = count_cons p x xs in omega (arith, one, two, deep)
    by false deep = let one = count_cons p x (filter (λ x. not (q x)) xs) in let two = count_cons p x xs in omega (arith, one, two, deep)

-- those of an id are at most one
count_own : (p : RegionBeat → Bool) (id : ℕ) (xs : List RegionBeat) → AreApart xs → count_by p (filter (λ one. nat_eq one.region.id id) xs) ≡ one_if (option_map_or p (find (λ one. nat_eq one.region.id id) xs) false)
count_own p id [] apart = refl
count_own p id (x ∷ xs) apart = by (nat_eq x.region.id id) refl (count_own p id xs (pairs_tail Precedes x xs apart))
  where
    none_in : (ys : List RegionBeat) → ((k : ℕ) (d : RegionBeat) → k < length ys → nat_eq (get_or ys k d).region.id id ≡ false) → filter (λ one. nat_eq one.region.id id) ys ≡ []
    none_in ys none = keep_none (λ one. nat_eq one.region.id id) ys none

    by : (t : Bool) → nat_eq x.region.id id ≡ t → count_by p (filter (λ one. nat_eq one.region.id id) xs) ≡ one_if (option_map_or p (find (λ one. nat_eq one.region.id id) xs) false)
        → count_by p (cond t (x ∷ filter (λ one. nat_eq one.region.id id) xs) (filter (λ one. nat_eq one.region.id id) xs)) ≡ one_if (option_map_or p (cond t (Some x) (find (λ one. nat_eq one.region.id id) xs)) false)
    by true is deep =
        ap (λ (l : List RegionBeat). count_by p (x ∷ l)) (none_in xs (λ k d low. other_id_behind (get_or xs k d).region.id x.region.id id (pairs_head Precedes x xs apart k d low).other_id is)) ∙ count_cons p x [] ∙ only (one_if (p x))
      where
        only : (n : ℕ) → n + count_by p [] ≡ n
        only n = add-zero n
    by false is deep = deep

-- what stays and what goes make what there was; the heartbeat comes to what stays
pub count_moves : (p : RegionBeat → Bool) (b : RegionBeat) (xs : List RegionBeat) → AreApart xs → CountMoves p b xs (put_beat b xs)
count_moves p b xs apart =
    let two = count_parts p (overlaps b) (others b.region.id xs) in
    let three = count_parts p (λ one. nat_eq one.region.id b.region.id) xs in
    let four = ap (λ (l : List RegionBeat). count_by p l) (overlaps_others b xs) in
    let five = ap (λ (l : List RegionBeat). count_by p l) (stays_others b xs) in
    let six = count_own p b.region.id xs apart in
    record {
      staying = omega (arith, two, three, four, five, six);
      put = let one = count_insert p b (filter (stays b) xs) in omega (arith, one);
    }
