-- What stands in a rising list at the place of a key.
use Rattle.std.proofs.Common.{◌≡◌, ◌≢◌, ℕ, zero, suc, ◌+◌, ◌<◌, ◌≤◌, Bool, true, false, not, List, [], ◌∷◌, ◌++◌, length, get_or, take, drop, set, refl, ap, sym, ◌∙◌, arith, ◌⊎◌, inl, inr, subst, add-one, Some, None}
use Rattle.std.proofs.lemmas.Bool.{cases_lt, cases_eq}
use Rattle.std.specs.List.{filter, insert}
use Rattle.std.specs.Str.{bytes_eq}
use Rattle.pd_types.specs.Keys.{is_below}
use Rattle.pd_types.proofs.KeyLemmas.{above, above_other, below_other, below_trans, below_upto, equal_keys, not_below_itself}
use Rattle.pd_types.proofs.Filters.{filter_all, filter_back, filter_front, find_first, find_none, only_place, set_parts}
use Rattle.meta_store.specs.declared.record.Cell.{Cell}
use Rattle.meta_store.specs.Cells.{AreRising, cell_at, placed, without}
use Rattle.meta_store.specs.Places.{Parts, Stands}

-- a test that one alone fails
filter_one : {X : Type 0} (p : X → Bool) (xs : List X) (i : ℕ) → i < length xs → ((k : ℕ) (d : X) → k < length xs → k ≢ i → p (get_or xs k d) ≡ true) → ((d : X) → p (get_or xs i d) ≡ false) → filter p xs ≡ take i xs ++ drop (suc i) xs
filter_one p [] i inside passes fails = absurd (omega arith)
filter_one p (x ∷ xs) zero inside passes fails =
    rw (fails x) (filter_all p xs (λ k d low. passes (suc k) d (omega arith) (omega arith)))
filter_one p (x ∷ xs) (suc i) inside passes fails =
    rw (passes 0 x (omega arith) (omega arith)) (ap (λ ys. x ∷ ys) (filter_one p xs i (omega arith) (λ k d low other. passes (suc k) d (omega arith) (omega arith)) (λ d. fails d)))

-- at its place stands the key's record
pub cell_found : {key : List ℕ} {xs : List Cell} {i : ℕ} (d : Cell) → Stands key xs i → cell_at key xs ≡ Some (get_or xs i d)
cell_found {key} {xs} {i} d stands =
    find_first (λ one. bytes_eq one.key key) xs i d stands.inside (λ k e low. below_other (get_or xs k e).key key (stands.parts.before k e low)) (equal_keys (get_or xs i d).key key (stands.here d))

away : {key : List ℕ} {xs : List Cell} {i rest : ℕ} → Parts key xs i rest → (k : ℕ) (d : Cell) → k < length xs → (k < i) ⊎ (rest ≤ k) → bytes_eq (get_or xs k d).key key ≡ false
away {key} {xs} parts k d low (inl before) = below_other (get_or xs k d).key key (parts.before k d before)
away {key} {xs} parts k d low (inr after) = above_other key (get_or xs k d).key (parts.after k d after low)

pub cell_absent : {key : List ℕ} {xs : List Cell} {i : ℕ} → Parts key xs i i → cell_at key xs ≡ None
cell_absent {key} {xs} {i} parts = find_none (λ one. bytes_eq one.key key) xs (λ k e low. away parts k e low (cases_lt k i))

-- a record at its place
placed_parts : {xs : List Cell} {i rest : ℕ} (e : Cell) → Parts e.key xs i rest → i ≤ rest → ((k : ℕ) (d : Cell) → i ≤ k → k < rest → k < length xs → (get_or xs k d).key ≡ e.key) → placed e xs ≡ take i xs ++ (e ∷ drop rest xs)
placed_parts {xs} {i} {rest} e parts ordered same =
    let front = filter_front (λ one. is_below one.key e.key) xs i (λ k d low in_list. parts.before k d low) (λ k d high in_list. not_lesser k d high in_list (cases_lt k rest)) in
    let back = filter_back (λ one. is_below e.key one.key) xs rest (λ k d low in_list. not_greater k d low in_list (cases_lt k i)) (λ k d high in_list. parts.after k d high in_list) in
    rw (front, back) refl
  where
    not_lesser : (k : ℕ) (d : Cell) → i ≤ k → k < length xs → (k < rest) ⊎ (rest ≤ k) → is_below (get_or xs k d).key e.key ≡ false
    not_lesser k d high in_list (inl low) = subst (λ a. is_below a e.key ≡ false) (sym (same k d high low in_list)) (not_below_itself e.key)
    not_lesser k d high in_list (inr past) = below_upto e.key (get_or xs k d).key (parts.after k d past in_list)

    not_greater : (k : ℕ) (d : Cell) → k < rest → k < length xs → (k < i) ⊎ (i ≤ k) → is_below e.key (get_or xs k d).key ≡ false
    not_greater k d low in_list (inl before) = below_upto (get_or xs k d).key e.key (parts.before k d before)
    not_greater k d low in_list (inr high) = subst (λ a. is_below e.key a ≡ false) (sym (same k d high low in_list)) (not_below_itself e.key)

pub placed_new : {xs : List Cell} {i : ℕ} (e : Cell) → Parts e.key xs i i → placed e xs ≡ insert xs i e
placed_new {xs} {i} e parts = placed_parts e parts (omega arith) (λ k d high low in_list. absurd (omega arith))

pub placed_known : {xs : List Cell} {i : ℕ} (e : Cell) → Stands e.key xs i → placed e xs ≡ set xs i e
placed_known {xs} {i} e stands =
    placed_parts e stands.parts (omega arith) (λ k d high low in_list. only_place xs i k d (λ one. one.key ≡ e.key) (omega arith) (stands.here d)) ∙ rw add-one (sym (set_parts xs i e stands.inside))

-- a key's record taken out
pub without_known : {key : List ℕ} {xs : List Cell} {i : ℕ} → Stands key xs i → without key xs ≡ take i xs ++ drop (i + 1) xs
without_known {key} {xs} {i} stands =
    rw add-one (filter_one (λ one. not (bytes_eq one.key key)) xs i stands.inside
    (λ k d low other. ap not (away stands.parts k d low (besides k other (cases_lt k i))))
    (λ d. ap not (equal_keys (get_or xs i d).key key (stands.here d))))
  where
    besides : (k : ℕ) → k ≢ i → (k < i) ⊎ (i ≤ k) → (k < i) ⊎ (i + 1 ≤ k)
    besides k other (inl low) = inl low
    besides k other (inr high) = inr (omega arith)

pub without_absent : {key : List ℕ} {xs : List Cell} {i : ℕ} → Parts key xs i i → without key xs ≡ xs
without_absent {key} {xs} {i} parts = filter_all (λ one. not (bytes_eq one.key key)) xs (λ k d low. ap not (away parts k d low (cases_lt k i)))

-- the place that was searched
pub parts_absent : {key : List ℕ} (xs : List Cell) {i : ℕ} → AreRising xs → i ≤ length xs → ((k : ℕ) (d : Cell) → k < i → is_below (get_or xs k d).key key ≡ true) → ((k : ℕ) (d : Cell) → i ≤ k → k < length xs → is_below (get_or xs k d).key key ≡ false) → ((d : Cell) → i < length xs → (get_or xs i d).key ≡ key → ⊥) → Parts key xs i i
parts_absent {key} xs {i} rising within before after other =
    record { within = within; before = before; after = λ k d high low. strictly k d high low (cases_eq i k) }
  where
    strictly : (k : ℕ) (d : Cell) → i ≤ k → k < length xs → (i ≡ k) ⊎ (i ≡ k → ⊥) → is_below key (get_or xs k d).key ≡ true
    strictly k d high low (inl same) =
        above (get_or xs k d).key key (after k d high low) (λ e. other d (omega arith) (subst (λ m. (get_or xs m d).key ≡ key) (sym same) e))
    strictly k d high low (inr past) =
        let here : is_below key (get_or xs i d).key ≡ true = above (get_or xs i d).key key (after i d (omega arith) (omega arith)) (other d (omega arith)) in
        below_trans key (get_or xs i d).key (get_or xs k d).key here (rising i k d (omega arith) low)

pub stands_at : {key : List ℕ} (xs : List Cell) {i : ℕ} → AreRising xs → i < length xs → ((k : ℕ) (d : Cell) → k < i → is_below (get_or xs k d).key key ≡ true) → ((d : Cell) → (get_or xs i d).key ≡ key) → Stands key xs i
stands_at {key} xs {i} rising inside before here = record {
  inside = inside;
  here = here;
  parts = record { within = omega arith; before = before; after = λ k d high low. subst (λ a. is_below a (get_or xs k d).key ≡ true) (here d) (rising i k d (omega arith) low) };
}

-- the same, of a list and a key that are equal to those searched
pub known_at : {searched key : List ℕ} {xs ys : List Cell} {i : ℕ} → ys ≡ xs → searched ≡ key → Stands searched ys i → Stands key xs i
known_at {searched} {key} {xs} {ys} {i} list name stands = subst (λ k. Stands k xs i) name (subst (λ zs. Stands searched zs i) list stands)

pub absent_at : {searched key : List ℕ} {xs ys : List Cell} {i : ℕ} → ys ≡ xs → searched ≡ key → Parts searched ys i i → Parts key xs i i
absent_at {searched} {key} {xs} {ys} {i} list name parts = subst (λ k. Parts k xs i i) name (subst (λ zs. Parts searched zs i i) list parts)
