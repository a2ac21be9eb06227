-- Records of stores by rising id, and their entries.
use Rattle.std.proofs.Common.{refl, ◌≡◌, ℕ, Bool, true, false, cond, nat_eq, nat_lt, List, [], ◌∷◌, ◌++◌, map, ap, sym, ◌∙◌, subst, Option, Some, None, arith}
use Rattle.std.proofs.lemmas.Bool.Decides.{nat_tests}
use Rattle.std.specs.List.{filter, find}
use Rattle.std.specs.Option.{option_map}
use Rattle.pd_types.specs.declared.store.StoreRec.{StoreRec}
use Rattle.pd_types.specs.declared.store.StoreState.{StoreState}
use Rattle.store_table.specs.declared.entry.StoreEntry.{StoreEntry}
use Rattle.store_table.specs.Calls.{loaded, answered, heard as heard_entry}
use Rattle.store_table.specs.Entries.{entry_at, state_at, placed, changed}
use Rattle.pd_state.specs.HandedOut.{record_at, with_record}
use Rattle.pd_state.specs.Steps.{greeted}

-- what stands behind what was filtered
find_placed : (id : ℕ) (e : StoreEntry) (xs ys : List StoreEntry) → e.store.id ≡ id → find (λ one. nat_eq one.store.id id) (filter (λ one. nat_lt one.store.id id) xs ++ (e ∷ ys)) ≡ Some e
find_placed id e [] ys same =
    let here : nat_eq e.store.id id ≡ true = grind (arith, nat_tests) in
    ap (λ (t : Bool). cond t (Some e) (find (λ one. nat_eq one.store.id id) ys)) here
find_placed id e (x ∷ xs) ys same = by (nat_lt x.store.id id) refl (find_placed id e xs ys same)
  where
    by : (t : Bool) → nat_lt x.store.id id ≡ t → find (λ one. nat_eq one.store.id id) (filter (λ one. nat_lt one.store.id id) xs ++ (e ∷ ys)) ≡ Some e
        → find (λ one. nat_eq one.store.id id) (cond t (x ∷ filter (λ one. nat_lt one.store.id id) xs) (filter (λ one. nat_lt one.store.id id) xs) ++ (e ∷ ys)) ≡ Some e
    by true less rest =
        let other : nat_eq x.store.id id ≡ false = grind (arith, nat_tests) in
        ap (λ (t : Bool). cond t (Some x) (find (λ one. nat_eq one.store.id id) (filter (λ one. nat_lt one.store.id id) xs ++ (e ∷ ys)))) other ∙ rest
    by false less rest = rest

pub state_placed : (id : ℕ) (e : StoreEntry) (xs : List StoreEntry) → e.store.id ≡ id → state_at id (placed e xs) ≡ Some e.store.state
state_placed id e xs same =
    ap (option_map (λ (one : StoreEntry). one.store.state))
    (subst (λ (n : ℕ). find (λ one. nat_eq one.store.id n) (placed e xs) ≡ Some e) same (find_placed e.store.id e xs (filter (λ one. nat_lt e.store.id one.store.id) xs) refl))

-- a change of one id leaves what was filtered away from it
changed_below : (id : ℕ) (f : StoreEntry → StoreEntry) (xs : List StoreEntry) → changed id f (filter (λ one. nat_lt one.store.id id) xs) ≡ filter (λ one. nat_lt one.store.id id) xs
changed_below id f [] = refl
changed_below id f (x ∷ xs) = by (nat_lt x.store.id id) refl (changed_below id f xs)
  where
    by : (t : Bool) → nat_lt x.store.id id ≡ t → changed id f (filter (λ one. nat_lt one.store.id id) xs) ≡ filter (λ one. nat_lt one.store.id id) xs
        → changed id f (cond t (x ∷ filter (λ one. nat_lt one.store.id id) xs) (filter (λ one. nat_lt one.store.id id) xs)) ≡ cond t (x ∷ filter (λ one. nat_lt one.store.id id) xs) (filter (λ one. nat_lt one.store.id id) xs)
    by true less rest =
        let other : nat_eq x.store.id id ≡ false = grind (arith, nat_tests) in
        ap (λ (t : Bool). cond t (f x) x ∷ changed id f (filter (λ one. nat_lt one.store.id id) xs)) other ∙ ap (λ (l : List StoreEntry). x ∷ l) rest
    by false less rest = rest

changed_above : (id : ℕ) (f : StoreEntry → StoreEntry) (xs : List StoreEntry) → changed id f (filter (λ one. nat_lt id one.store.id) xs) ≡ filter (λ one. nat_lt id one.store.id) xs
changed_above id f [] = refl
changed_above id f (x ∷ xs) = by (nat_lt id x.store.id) refl (changed_above id f xs)
  where
    by : (t : Bool) → nat_lt id x.store.id ≡ t → changed id f (filter (λ one. nat_lt id one.store.id) xs) ≡ filter (λ one. nat_lt id one.store.id) xs
        → changed id f (cond t (x ∷ filter (λ one. nat_lt id one.store.id) xs) (filter (λ one. nat_lt id one.store.id) xs)) ≡ cond t (x ∷ filter (λ one. nat_lt id one.store.id) xs) (filter (λ one. nat_lt id one.store.id) xs)
    by true less rest =
        let other : nat_eq x.store.id id ≡ false = grind (arith, nat_tests) in
        ap (λ (t : Bool). cond t (f x) x ∷ changed id f (filter (λ one. nat_lt id one.store.id) xs)) other ∙ ap (λ (l : List StoreEntry). x ∷ l) rest
    by false less rest = rest

map_end : {X Y : Type 0} (f : X → Y) (xs ys : List X) → map f (xs ++ ys) ≡ map f xs ++ map f ys
map_end f [] ys = refl
map_end f (x ∷ xs) ys = ap (λ l. f x ∷ l) (map_end f xs ys)

-- a new store with a heartbeat
pub changed_placed : (rec : StoreRec) (began moment : ℕ) (xs : List StoreEntry) → changed rec.id (heard_entry moment) (placed (loaded rec began) xs) ≡ placed (greeted None rec began moment) xs
changed_placed rec began moment xs =
    let here : nat_eq rec.id rec.id ≡ true = grind (arith, nat_tests) in
    map_end (λ entry. cond (nat_eq entry.store.id rec.id) (heard_entry moment entry) entry) (filter (λ one. nat_lt one.store.id rec.id) xs) (loaded rec began ∷ filter (λ one. nat_lt rec.id one.store.id) xs)
    ∙ ap (λ (l : List StoreEntry). l ++ (cond (nat_eq rec.id rec.id) (heard_entry moment (loaded rec began)) (loaded rec began) ∷ changed rec.id (heard_entry moment) (filter (λ one. nat_lt rec.id one.store.id) xs))) (changed_below rec.id (heard_entry moment) xs)
    ∙ ap (λ (t : Bool). filter (λ one. nat_lt one.store.id rec.id) xs ++ (cond t (heard_entry moment (loaded rec began)) (loaded rec began) ∷ changed rec.id (heard_entry moment) (filter (λ one. nat_lt rec.id one.store.id) xs))) here
    ∙ ap (λ (l : List StoreEntry). filter (λ one. nat_lt one.store.id rec.id) xs ++ (heard_entry moment (loaded rec began) ∷ l)) (changed_above rec.id (heard_entry moment) xs)

-- where the state is known, so is the entry
pub known_greeted : (id : ℕ) (rec : StoreRec) (began moment : ℕ) (o : Option StoreEntry) (state : StoreState) → option_map (λ (e : StoreEntry). e.store.state) o ≡ Some state → greeted o rec began moment ≡ answered rec moment o
known_greeted id rec began moment None state h = absurd cc
known_greeted id rec began moment (Some e) state h = refl

pub unknown_greeted : (rec : StoreRec) (began moment : ℕ) (o : Option StoreEntry) → option_map (λ (e : StoreEntry). e.store.state) o ≡ None → greeted o rec began moment ≡ greeted None rec began moment
unknown_greeted rec began moment None h = refl
unknown_greeted rec began moment (Some e) h = absurd cc

-- filters of mapped lists: E gives the entry of a record, with its id
module _ (E : StoreRec → StoreEntry) (same_id : (r : StoreRec) → (E r).store.id ≡ r.id) where
  filter_map : (q : ℕ → Bool) (recs : List StoreRec) → filter (λ one. q one.store.id) (map E recs) ≡ map E (filter (λ one. q one.id) recs)
  filter_map q [] = refl
  filter_map q (r ∷ recs) =
      ap (λ (n : ℕ). cond (q n) (E r ∷ filter (λ one. q one.store.id) (map E recs)) (filter (λ one. q one.store.id) (map E recs))) (same_id r)
      ∙ by (q r.id) (filter_map q recs)
    where
      by : (t : Bool) → filter (λ one. q one.store.id) (map E recs) ≡ map E (filter (λ one. q one.id) recs)
          → cond t (E r ∷ filter (λ one. q one.store.id) (map E recs)) (filter (λ one. q one.store.id) (map E recs)) ≡ map E (cond t (r ∷ filter (λ one. q one.id) recs) (filter (λ one. q one.id) recs))
      by true rest = ap (λ (l : List StoreEntry). E r ∷ l) rest
      by false rest = rest

  pub entry_map : (id : ℕ) (recs : List StoreRec) → entry_at id (map E recs) ≡ option_map E (record_at id recs)
  entry_map id [] = refl
  entry_map id (r ∷ recs) =
      ap (λ (n : ℕ). cond (nat_eq n id) (Some (E r)) (entry_at id (map E recs))) (same_id r)
      ∙ by (nat_eq r.id id) (entry_map id recs)
    where
      by : (t : Bool) → entry_at id (map E recs) ≡ option_map E (record_at id recs) → cond t (Some (E r)) (entry_at id (map E recs)) ≡ option_map E (cond t (Some r) (record_at id recs))
      by true rest = refl
      by false rest = rest

-- two maps that agree where the test passes
map_agree : (E F : StoreRec → StoreEntry) (q : ℕ → Bool) → ((r : StoreRec) → q r.id ≡ true → E r ≡ F r) → (recs : List StoreRec) → map E (filter (λ one. q one.id) recs) ≡ map F (filter (λ one. q one.id) recs)
map_agree E F q agree [] = refl
map_agree E F q agree (r ∷ recs) = by (q r.id) refl (map_agree E F q agree recs)
  where
    by : (t : Bool) → q r.id ≡ t → map E (filter (λ one. q one.id) recs) ≡ map F (filter (λ one. q one.id) recs)
        → map E (cond t (r ∷ filter (λ one. q one.id) recs) (filter (λ one. q one.id) recs)) ≡ map F (cond t (r ∷ filter (λ one. q one.id) recs) (filter (λ one. q one.id) recs))
    by true passes rest = ap (λ (e : StoreEntry). e ∷ map E (filter (λ one. q one.id) recs)) (agree r passes) ∙ ap (λ (l : List StoreEntry). F r ∷ l) rest
    by false fails rest = rest

-- a placed entry is that of the placed record, where the entries of other ids stay
pub placed_map : (E F : StoreRec → StoreEntry) → ((r : StoreRec) → (E r).store.id ≡ r.id) → (rec : StoreRec) (e : StoreEntry) → e.store.id ≡ rec.id → e ≡ F rec → ((r : StoreRec) → nat_eq r.id rec.id ≡ false → E r ≡ F r) → (recs : List StoreRec) → placed e (map E recs) ≡ map F (with_record rec recs)
placed_map E F same_id rec e id_is is others recs =
    ap (λ (n : ℕ). filter (λ one. nat_lt one.store.id n) (map E recs) ++ (e ∷ filter (λ one. nat_lt n one.store.id) (map E recs))) id_is
    ∙ ap (λ (l : List StoreEntry). l ++ (e ∷ filter (λ one. nat_lt rec.id one.store.id) (map E recs))) (filter_map E same_id (λ n. nat_lt n rec.id) recs ∙ map_agree E F (λ n. nat_lt n rec.id) (λ r less. others r (below r less)) recs)
    ∙ ap (λ (l : List StoreEntry). map F (filter (λ one. nat_lt one.id rec.id) recs) ++ (e ∷ l)) (filter_map E same_id (λ n. nat_lt rec.id n) recs ∙ map_agree E F (λ n. nat_lt rec.id n) (λ r less. others r (above r less)) recs)
    ∙ ap (λ (x : StoreEntry). map F (filter (λ one. nat_lt one.id rec.id) recs) ++ (x ∷ map F (filter (λ one. nat_lt rec.id one.id) recs))) is
    ∙ sym (map_end F (filter (λ one. nat_lt one.id rec.id) recs) (rec ∷ filter (λ one. nat_lt rec.id one.id) recs))
  where
    below : (r : StoreRec) → nat_lt r.id rec.id ≡ true → nat_eq r.id rec.id ≡ false
    below r less = grind (arith, nat_tests)

    above : (r : StoreRec) → nat_lt rec.id r.id ≡ true → nat_eq r.id rec.id ≡ false
    above r less = grind (arith, nat_tests)

-- a store that isn't known once a record is placed is another one, and wasn't known before
some_found : (p : StoreRec → Bool) (x : StoreRec) (t : Bool) (o : Option StoreRec) → cond t (Some x) o ≡ None → (t ≡ false) × (o ≡ None)
some_found p x true o h = absurd cc
some_found p x false o h = (refl, h)

pub find_append : (p : StoreRec → Bool) (xs ys : List StoreRec) → find p (xs ++ ys) ≡ None → (find p xs ≡ None) × (find p ys ≡ None)
find_append p [] ys h = (refl, h)
find_append p (x ∷ xs) ys h =
    let parts = some_found p x (p x) (find p (xs ++ ys)) h in
    let rest = find_append p xs ys parts.1 in
    (ap (λ (t : Bool). cond t (Some x) (find p xs)) parts.0 ∙ rest.0, rest.1)

find_both : (store other : ℕ) (recs : List StoreRec) → nat_eq store other ≡ false → record_at other (filter (λ one. nat_lt one.id store) recs) ≡ None → record_at other (filter (λ one. nat_lt store one.id) recs) ≡ None → record_at other recs ≡ None
find_both store other [] apart below above = refl
find_both store other (r ∷ recs) apart below above = by (nat_lt r.id store) (nat_lt store r.id) refl refl below above (find_both store other recs apart)
  where
    found : nat_eq r.id other ≡ false → record_at other recs ≡ None → record_at other (r ∷ recs) ≡ None
    found not_here rest = ap (λ (t : Bool). cond t (Some r) (record_at other recs)) not_here ∙ rest

    by : (less more : Bool) → nat_lt r.id store ≡ less → nat_lt store r.id ≡ more → record_at other (cond less (r ∷ filter (λ one. nat_lt one.id store) recs) (filter (λ one. nat_lt one.id store) recs)) ≡ None
        → record_at other (cond more (r ∷ filter (λ one. nat_lt store one.id) recs) (filter (λ one. nat_lt store one.id) recs)) ≡ None
        → (record_at other (filter (λ one. nat_lt one.id store) recs) ≡ None → record_at other (filter (λ one. nat_lt store one.id) recs) ≡ None → record_at other recs ≡ None) → record_at other (r ∷ recs) ≡ None
    by true true less more b a rest = absurd (grind (arith, nat_tests))
    by true false less more b a rest =
        let parts = some_found (λ one. nat_eq one.id other) r (nat_eq r.id other) (record_at other (filter (λ one. nat_lt one.id store) recs)) b in
        found parts.0 (rest parts.1 a)
    by false true less more b a rest =
        let parts = some_found (λ one. nat_eq one.id other) r (nat_eq r.id other) (record_at other (filter (λ one. nat_lt store one.id) recs)) a in
        found parts.0 (rest b parts.1)
    by false false less more b a rest =
        let here : nat_eq r.id other ≡ false = grind (arith, nat_tests) in
        found here (rest b a)

pub unknown_before : (rec : StoreRec) (other : ℕ) (recs : List StoreRec) → record_at other (with_record rec recs) ≡ None → (record_at other recs ≡ None) × (nat_eq other rec.id ≡ false)
unknown_before rec other recs h =
    let parts = find_append (λ one. nat_eq one.id other) (filter (λ one. nat_lt one.id rec.id) recs) (rec ∷ filter (λ one. nat_lt rec.id one.id) recs) h in
    let behind = some_found (λ one. nat_eq one.id other) rec (nat_eq rec.id other) (record_at other (filter (λ one. nat_lt rec.id one.id) recs)) parts.1 in
    let apart : nat_eq rec.id other ≡ false = behind.0 in
    let flipped : nat_eq other rec.id ≡ false = grind (arith, nat_tests) in
    (find_both rec.id other recs apart parts.0 behind.1, flipped)

-- a found record has the id
pub found_id : (store : ℕ) (recs : List StoreRec) (r : StoreRec) → record_at store recs ≡ Some r → r.id ≡ store
found_id store [] r h = absurd cc
found_id store (x ∷ xs) r h = by (nat_eq x.id store) refl h (found_id store xs r)
  where
    by : (t : Bool) → nat_eq x.id store ≡ t → cond t (Some x) (record_at store xs) ≡ Some r → (record_at store xs ≡ Some r → r.id ≡ store) → r.id ≡ store
    by true here k rest =
        let same : x ≡ r = cc in
        let id : x.id ≡ store = grind (arith, nat_tests) in
        subst (λ (s : StoreRec). s.id ≡ store) same id
    by false other k rest = rest k
