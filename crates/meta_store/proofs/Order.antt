-- Records by rising key, with one more and without one.
use Rattle.std.proofs.Common.{◌≡◌, ℕ, true, not, List, [], ◌∷◌, ◌++◌, get_or, arith, subst, sym, ◌⊎◌, inl, inr}
use Rattle.std.proofs.lemmas.Bool.{cases_eq}
use Rattle.std.proofs.lemmas.List.Elements.{All-cons, All-head, All-tail, All-append, filter_passes}
use Rattle.std.proofs.lemmas.List.Kept.{AllPairs-cons, AllPairs-filter}
use Rattle.std.specs.List.{filter, All, AllPairs}
use Rattle.std.specs.List.Sorted.{IsPartitionedBy}
use Rattle.std.specs.Str.{bytes_eq}
use Rattle.pd_types.specs.Keys.{is_below}
use Rattle.pd_types.proofs.KeyLemmas.{below_trans}
use Rattle.pd_types.proofs.Pairs.{pairs_head, pairs_tail}
use Rattle.meta_store.specs.declared.record.Cell.{Cell}
use Rattle.meta_store.specs.Cells.{AreRising, placed, without}

abbrev Precedes : Cell → Cell → Type 0
Precedes one later = is_below one.key later.key ≡ true

pairs_append : {X : Type 0} (R : X → X → Type 0) (xs ys : List X) → AllPairs R xs → AllPairs R ys → All (λ x. All (R x) ys) xs → AllPairs R (xs ++ ys)
pairs_append R [] ys first second between = second
pairs_append R (x ∷ xs) ys first second between =
    AllPairs-cons R x (xs ++ ys) (All-append (R x) xs ys (pairs_head R x xs first) (All-head (λ x. All (R x) ys) x xs between))
    (pairs_append R xs ys (pairs_tail R x xs first) second (All-tail (λ x. All (R x) ys) x xs between))

pub rising_placed : (cell : Cell) (xs : List Cell) → AreRising xs → AreRising (placed cell xs)
rising_placed cell xs rising =
    let lower : List Cell = filter (λ one. is_below one.key cell.key) xs in
    let upper : List Cell = filter (λ one. is_below cell.key one.key) xs in
    let lower_is : All (λ one. is_below one.key cell.key ≡ true) lower = filter_passes (λ one. is_below one.key cell.key) xs in
    let upper_is : All (λ one. is_below cell.key one.key ≡ true) upper = filter_passes (λ one. is_below cell.key one.key) xs in
    let behind : AllPairs Precedes (cell ∷ upper) = AllPairs-cons Precedes cell upper upper_is (AllPairs-filter Precedes (λ one. is_below cell.key one.key) xs rising) in
    pairs_append Precedes lower (cell ∷ upper) (AllPairs-filter Precedes (λ one. is_below one.key cell.key) xs rising) behind
    (λ k d low. All-cons (Precedes (get_or lower k d)) cell upper (lower_is k d low)
    (λ j e high. below_trans (get_or lower k d).key cell.key (get_or upper j e).key (lower_is k d low) (upper_is j e high)))

pub rising_without : (key : List ℕ) (xs : List Cell) → AreRising xs → AreRising (without key xs)
rising_without key xs rising = AllPairs-filter Precedes (λ one. not (bytes_eq one.key key)) xs rising

pub rising_none : AreRising []
rising_none i j d less low = absurd (omega arith)

-- the lesser keys stand first
pub parted : (key : List ℕ) (xs : List Cell) → AreRising xs → IsPartitionedBy (λ one. is_below one.key key) xs
parted key xs rising i j d not_after inside passes = from_cases (cases_eq i j)
  where
    from_cases : (i ≡ j) ⊎ (i ≡ j → ⊥) → is_below (get_or xs i d).key key ≡ true
    from_cases (inl same) = subst (λ k. is_below (get_or xs k d).key key ≡ true) (sym same) passes
    from_cases (inr other) = below_trans (get_or xs i d).key (get_or xs j d).key key (rising i j d (omega arith) inside) passes
