-- What stands in a rising list at the place of an id.
use Rattle.std.proofs.Common.{◌≡◌, ◌≢◌, ℕ, zero, suc, ◌+◌, ◌-◌, ◌<◌, ◌≤◌, Bool, true, false, cond, List, [], ◌∷◌, ◌++◌, length, get_or, take, drop, set, refl, ap, sym, ◌∙◌, arith, nat_lt, eqb, ◌⊎◌, inl, inr, subst, add-one, Some, None, map}
use Rattle.std.proofs.lemmas.Bool.{ltb-true, lt-ltb, le-ltb, eq-eqb, ne_eqb, cases_lt, cases_eq, cases_order}
use Rattle.std.proofs.lemmas.List.Edits.{get_or-insert_below, get_or-insert_at, get_or-insert_above, length-insert}
use Rattle.std.specs.List.{insert}
use Rattle.std.specs.List.Sorted.{IsPartitionedBy}
use Rattle.pd_types.proofs.Filters.{filter_back, filter_front, find_first, find_none, only_place, set_parts}
use Rattle.store_table.specs.declared.entry.StoreEntry.{StoreEntry}
use Rattle.store_table.specs.Entries.{AreRising, entry_at, state_at, placed, changed}
use Rattle.store_table.specs.Places.{Parts, Stands}

-- a change of those that pass, where one alone does
pub map_none : {X : Type 0} (p : X → Bool) (f : X → X) (xs : List X) → ((k : ℕ) (e : X) → k < length xs → p (get_or xs k e) ≡ false) → map (λ x. cond (p x) (f x) x) xs ≡ xs
map_none p f [] fails = refl
map_none p f (x ∷ xs) fails =
    rw (fails 0 x (omega arith)) (ap (λ ys. x ∷ ys) (map_none p f xs (λ k e low. fails (suc k) e (omega arith))))

pub map_one : {X : Type 0} (p : X → Bool) (f : X → X) (xs : List X) (i : ℕ) (d : X) → i < length xs → ((k : ℕ) (e : X) → k < length xs → k ≢ i → p (get_or xs k e) ≡ false) → p (get_or xs i d) ≡ true → map (λ x. cond (p x) (f x) x) xs ≡ set xs i (f (get_or xs i d))
map_one p f [] i d inside fails passes = absurd (omega arith)
map_one p f (x ∷ xs) zero d inside fails passes =
    rw passes (ap (λ ys. f x ∷ ys) (map_none p f xs (λ k e low. fails (suc k) e (omega arith) (omega arith))))
map_one p f (x ∷ xs) (suc i) d inside fails passes =
    rw (fails 0 x (omega arith) (omega arith)) (ap (λ ys. x ∷ ys) (map_one p f xs i d (omega arith) (λ k e low other. fails (suc k) e (omega arith) (omega arith)) passes))

-- at its place stands the store's entry
pub entry_found : {id : ℕ} {xs : List StoreEntry} {i : ℕ} (d : StoreEntry) → Stands id xs i → entry_at id xs ≡ Some (get_or xs i d)
entry_found {id} {xs} {i} d stands =
    find_first (λ e. eqb e.store.id id) xs i d stands.inside (λ k e low. ne_eqb _ _ (λ same. let lesser = stands.parts.before k e low in omega arith)) (eq-eqb _ _ (stands.here d))

other_id : {id : ℕ} {xs : List StoreEntry} {i rest : ℕ} → Parts id xs i rest → (k : ℕ) (e : StoreEntry) → k < length xs → (k < i) ⊎ (rest ≤ k) → (get_or xs k e).store.id ≡ id → ⊥
other_id parts k e low (inl before) same = let lesser = parts.before k e before in omega arith
other_id parts k e low (inr after) same = let greater = parts.after k e after low in omega arith

pub entry_absent : {id : ℕ} {xs : List StoreEntry} {i : ℕ} → Parts id xs i i → entry_at id xs ≡ None
entry_absent {id} {xs} {i} parts = find_none (λ e. eqb e.store.id id) xs (λ k e low. ne_eqb _ _ (other_id parts k e low (cases_lt k i)))

-- an entry at its place
pub placed_parts : {xs : List StoreEntry} {i rest : ℕ} (e : StoreEntry) → Parts e.store.id xs i rest → i ≤ rest → ((k : ℕ) (d : StoreEntry) → i ≤ k → k < rest → k < length xs → (get_or xs k d).store.id ≡ e.store.id) → placed e xs ≡ take i xs ++ (e ∷ drop rest xs)
placed_parts {xs} {i} {rest} e parts ordered same =
    let front = filter_front (λ one. nat_lt one.store.id e.store.id) xs i (λ k d low in_list. lt-ltb _ _ (parts.before k d low)) (λ k d high in_list. le-ltb _ _ (not_lesser parts same k d high in_list (cases_lt k rest))) in
    let back = filter_back (λ one. nat_lt e.store.id one.store.id) xs rest (λ k d low in_list. le-ltb _ _ (not_greater parts same k d low in_list (cases_lt k i))) (λ k d high in_list. lt-ltb _ _ (parts.after k d high in_list)) in
    rw (front, back) refl
  where
    not_lesser : {xs : List StoreEntry} {i rest : ℕ} {id : ℕ} → Parts id xs i rest → ((k : ℕ) (d : StoreEntry) → i ≤ k → k < rest → k < length xs → (get_or xs k d).store.id ≡ id) → (k : ℕ) (d : StoreEntry) → i ≤ k → k < length xs → (k < rest) ⊎ (rest ≤ k) → id ≤ (get_or xs k d).store.id
    not_lesser parts same k d high in_list (inl low) = let here = same k d high low in_list in omega arith
    not_lesser parts same k d high in_list (inr past) = let greater = parts.after k d past in_list in omega arith

    not_greater : {xs : List StoreEntry} {i rest : ℕ} {id : ℕ} → Parts id xs i rest → ((k : ℕ) (d : StoreEntry) → i ≤ k → k < rest → k < length xs → (get_or xs k d).store.id ≡ id) → (k : ℕ) (d : StoreEntry) → k < rest → k < length xs → (k < i) ⊎ (i ≤ k) → (get_or xs k d).store.id ≤ id
    not_greater parts same k d low in_list (inl before) = let lesser = parts.before k d before in omega arith
    not_greater parts same k d low in_list (inr high) = let here = same k d high low in_list in omega arith

pub placed_new : {xs : List StoreEntry} {i : ℕ} (e : StoreEntry) → Parts e.store.id xs i i → placed e xs ≡ insert xs i e
placed_new {xs} {i} e parts = placed_parts e parts (omega arith) (λ k d high low in_list. absurd (omega arith))

pub placed_known : {xs : List StoreEntry} {i : ℕ} (e : StoreEntry) → Stands e.store.id xs i → placed e xs ≡ set xs i e
placed_known {xs} {i} e stands =
    placed_parts e stands.parts (omega arith) (λ k d high low in_list. only_place xs i k d (λ one. one.store.id ≡ e.store.id) (omega arith) (stands.here d)) ∙ rw add-one (sym (set_parts xs i e stands.inside))

pub changed_known : {id : ℕ} {xs : List StoreEntry} {i : ℕ} (f : StoreEntry → StoreEntry) (d : StoreEntry) → Stands id xs i → changed id f xs ≡ set xs i (f (get_or xs i d))
changed_known {id} {xs} {i} f d stands =
    map_one (λ e. eqb e.store.id id) f xs i d stands.inside (λ k e low other. ne_eqb _ _ (other_id stands.parts k e low (besides k i other (cases_lt k i)))) (eq-eqb _ _ (stands.here d))
  where
    besides : (k i : ℕ) → k ≢ i → (k < i) ⊎ (i ≤ k) → (k < i) ⊎ (i + 1 ≤ k)
    besides k i other (inl low) = inl low
    besides k i other (inr high) = inr (omega arith)

-- the id at a place after an insertion
before_insert : (xs : List StoreEntry) (i : ℕ) (e d : StoreEntry) (k : ℕ) → k < i → i ≤ length xs → (get_or (insert xs i e) k d).store.id ≡ (get_or xs k d).store.id
before_insert xs i e d k low within = ap (λ (s : StoreEntry). s.store.id) (get_or-insert_below xs i e d k low within)

here_insert : (xs : List StoreEntry) (i : ℕ) (e d : StoreEntry) → i ≤ length xs → (get_or (insert xs i e) i d).store.id ≡ e.store.id
here_insert xs i e d within = ap (λ (s : StoreEntry). s.store.id) (get_or-insert_at xs i e d within)

after_insert : (xs : List StoreEntry) (i : ℕ) (e d : StoreEntry) (k : ℕ) → i ≤ k → i ≤ length xs → (get_or (insert xs i e) (k + 1) d).store.id ≡ (get_or xs k d).store.id
after_insert xs i e d k high within = ap (λ (s : StoreEntry). s.store.id) (get_or-insert_above xs i e d k high within)

at_insert : (xs : List StoreEntry) (i : ℕ) (e d : StoreEntry) (k : ℕ) → k ≡ i → i ≤ length xs → (get_or (insert xs i e) k d).store.id ≡ e.store.id
at_insert xs i e d k here within = subst (λ m. (get_or (insert xs i e) m d).store.id ≡ e.store.id) (sym here) (here_insert xs i e d within)

past_insert : (xs : List StoreEntry) (i : ℕ) (e d : StoreEntry) (k : ℕ) → i < k → i ≤ length xs → (get_or (insert xs i e) k d).store.id ≡ (get_or xs (k - 1) d).store.id
past_insert xs i e d k past within =
    let moved : k - 1 + 1 ≡ k = omega arith in
    subst (λ m. (get_or (insert xs i e) m d).store.id ≡ (get_or xs (k - 1) d).store.id) moved (after_insert xs i e d (k - 1) (omega arith) within)

ordered : (xs : List StoreEntry) (i : ℕ) (e d : StoreEntry) (j k : ℕ) → AreRising xs → Parts e.store.id xs i i → j < k → k < length xs + 1 → (j ≡ i) ⊎ ((j < i) ⊎ (i < j)) → (k ≡ i) ⊎ ((k < i) ⊎ (i < k)) → (get_or (insert xs i e) j d).store.id < (get_or (insert xs i e) k d).store.id
ordered xs i e d j k rising parts less low (inl j_here) (inl k_here) = absurd (omega arith)
ordered xs i e d j k rising parts less low (inl j_here) (inr (inl k_before)) = absurd (omega arith)
ordered xs i e d j k rising parts less low (inl j_here) (inr (inr k_past)) =
    let one = at_insert xs i e d j j_here parts.within in
    let other = past_insert xs i e d k k_past parts.within in
    let greater = parts.after (k - 1) d (omega arith) (omega arith) in
    omega arith
ordered xs i e d j k rising parts less low (inr (inl j_before)) (inl k_here) =
    let one = before_insert xs i e d j j_before parts.within in
    let other = at_insert xs i e d k k_here parts.within in
    let lesser = parts.before j d j_before in
    omega arith
ordered xs i e d j k rising parts less low (inr (inl j_before)) (inr (inl k_before)) =
    let one = before_insert xs i e d j j_before parts.within in
    let other = before_insert xs i e d k k_before parts.within in
    let order = rising j k d less (let within = parts.within in omega arith) in
    omega arith
ordered xs i e d j k rising parts less low (inr (inl j_before)) (inr (inr k_past)) =
    let one = before_insert xs i e d j j_before parts.within in
    let other = past_insert xs i e d k k_past parts.within in
    let order = rising j (k - 1) d (omega arith) (omega arith) in
    omega arith
ordered xs i e d j k rising parts less low (inr (inr j_past)) (inl k_here) = absurd (omega arith)
ordered xs i e d j k rising parts less low (inr (inr j_past)) (inr (inl k_before)) = absurd (omega arith)
ordered xs i e d j k rising parts less low (inr (inr j_past)) (inr (inr k_past)) =
    let one = past_insert xs i e d j j_past parts.within in
    let other = past_insert xs i e d k k_past parts.within in
    let order = rising (j - 1) (k - 1) d (omega arith) (omega arith) in
    omega arith

pub rising_insert : {xs : List StoreEntry} {i : ℕ} (e : StoreEntry) → AreRising xs → Parts e.store.id xs i i → AreRising (insert xs i e)
rising_insert {xs} {i} e rising parts j k d less low =
    ordered xs i e d j k rising parts less (let long = length-insert xs i e parts.within in omega arith) (cases_order j i) (cases_order k i)

-- a greater id at the place, where those from there on aren't lesser
pub parts_absent : {id : ℕ} (xs : List StoreEntry) {i : ℕ} → AreRising xs → i ≤ length xs → ((k : ℕ) (d : StoreEntry) → k < i → (get_or xs k d).store.id < id) → ((k : ℕ) (d : StoreEntry) → i ≤ k → k < length xs → id ≤ (get_or xs k d).store.id) → ((d : StoreEntry) → i < length xs → (get_or xs i d).store.id ≡ id → ⊥) → Parts id xs i i
parts_absent {id} xs {i} rising within before after other =
    record { within = within; before = before; after = λ k d high low. strictly k d high low (cases_eq i k) }
  where
    strictly : (k : ℕ) (d : StoreEntry) → i ≤ k → k < length xs → (i ≡ k) ⊎ (i ≡ k → ⊥) → id < (get_or xs k d).store.id
    strictly k d high low (inl same) =
        let here : (get_or xs k d).store.id ≡ id → ⊥ = subst (λ m. (get_or xs m d).store.id ≡ id → ⊥) same (other d (omega arith)) in
        let least = after k d high low in
        grind arith
    strictly k d high low (inr past) =
        let least = after i d (omega arith) (omega arith) in
        let order = rising i k d (omega arith) low in
        omega arith

pub stands_at : {id : ℕ} (xs : List StoreEntry) {i : ℕ} → AreRising xs → i < length xs → ((k : ℕ) (d : StoreEntry) → k < i → (get_or xs k d).store.id < id) → ((d : StoreEntry) → (get_or xs i d).store.id ≡ id) → Stands id xs i
stands_at {id} xs {i} rising inside before here = record {
  inside = inside;
  here = here;
  parts = record { within = omega arith; before = before; after = λ k d high low. behind k d high low };
}
  where
    behind : (k : ℕ) (d : StoreEntry) → i + 1 ≤ k → k < length xs → id < (get_or xs k d).store.id
    behind k d high low =
        let order = rising i k d (omega arith) low in
        let same = here d in
        omega arith

-- the lesser ids stand first
pub lesser_first : (id : ℕ) (xs : List StoreEntry) → AreRising xs → IsPartitionedBy (λ e. nat_lt e.store.id id) xs
lesser_first id xs rising i j d not_after inside passes = from_cases (cases_eq i j)
  where
    from_cases : (i ≡ j) ⊎ (i ≡ j → ⊥) → nat_lt (get_or xs i d).store.id id ≡ true
    from_cases (inl same) = subst (λ k. nat_lt (get_or xs k d).store.id id ≡ true) (sym same) passes
    from_cases (inr other) = lt-ltb _ _ (let order = rising i j d (omega arith) inside in let less = ltb-true _ _ passes in omega arith)

-- the state of a store at its place
pub state_found : {id : ℕ} {xs : List StoreEntry} {i : ℕ} (d : StoreEntry) → Stands id xs i → state_at id xs ≡ Some (get_or xs i d).store.state
state_found d stands = rw (entry_found d stands) refl

pub state_absent : {id : ℕ} {xs : List StoreEntry} {i : ℕ} → Parts id xs i i → state_at id xs ≡ None
state_absent parts = rw (entry_absent parts) refl
