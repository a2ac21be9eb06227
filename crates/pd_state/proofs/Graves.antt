-- The stores that are to be buried: they rise by id, and each is Offline until it is buried.
use Rattle.std.proofs.Common.{refl, ◌≡◌, ◌≢◌, ℕ, suc, ◌+◌, ◌<◌, ◌≤◌, nat_eq, Bool, true, false, cond, List, [], ◌∷◌, length, map, drop, take, ap, ◌∙◌, subst, Some, arith}
use Rattle.std.proofs.lemmas.Bool.Decides.{nat_tests}
use Rattle.std.proofs.lemmas.List.{take_all}
use Rattle.std.proofs.lemmas.List.Elements.{All-cons, All-filter, All-map, All-nil}
use Rattle.std.proofs.lemmas.List.Kept.{AllPairs-cons}
use Rattle.std.specs.List.{All, AllPairs, filter}
use Rattle.std.specs.Option.{option_map}
use Rattle.pd_types.specs.declared.region.RegionBeat.{RegionBeat}
use Rattle.pd_types.specs.declared.store.StoreRec.{StoreRec}
use Rattle.pd_types.specs.declared.store.StoreState.{StoreState}
use Rattle.pd_types.specs.declared.store.StoreState.TheVariants.{Offline, Tombstone, Up}
use Rattle.store_table.specs.declared.entry.StoreEntry.{StoreEntry}
use Rattle.store_table.specs.Calls.{in_state}
use Rattle.store_table.specs.Entries.{AreRising, changed, entry_at, state_at}
use Rattle.store_table.proofs.MapLemmas.{entry_kept}
use Rattle.heartbeat.specs.Counts.{region_count}
use Rattle.pd_state.specs.Checking.{grave_by, is_grave, tombstone}
use Rattle.pd_state.proofs.Walks.{graves_of}

same_test : (n : ℕ) → nat_eq n n ≡ true
same_test n = grind (arith, nat_tests)

other_test : (a b : ℕ) → a < b → nat_eq a b ≡ false
other_test a b less = grind (arith, nat_tests)

-- of a list whose elements stand in an order
pub pairs_head : {A : Type 0} (R : A → A → Type 0) (x : A) (xs : List A) → AllPairs R (x ∷ xs) → All (R x) xs
pairs_head R x xs h = λ k d low. h 0 (suc k) d (omega arith) (omega (arith, low))

pub pairs_rest : {A : Type 0} (R : A → A → Type 0) (x : A) (xs : List A) → AllPairs R (x ∷ xs) → AllPairs R xs
pairs_rest R x xs h = λ i j d less low. h (suc i) (suc j) d (omega (arith, less)) (omega (arith, low))

all_rest : {A : Type 0} (P : A → Type 0) (x : A) (xs : List A) → All P (x ∷ xs) → All P xs
all_rest P x xs h = λ k d low. h (suc k) d (omega (arith, low))

abbrev pub Below : StoreRec → StoreRec → Type 0
Below one other = one.id < other.id

abbrev pub IsOffline : List StoreEntry → StoreRec → Type 0
IsOffline stores grave = state_at grave.id stores ≡ Some Offline

above : (held : List RegionBeat) (n : ℕ) (stores : List StoreEntry) → All (λ (e : StoreEntry). n < e.store.id) stores → All (λ (g : StoreRec). n < g.id) (graves_of held stores)
above held n stores h =
    All-map (λ (g : StoreRec). n < g.id) tombstone (filter (is_grave held) (map (λ (entry : StoreEntry). entry.store) stores))
    (All-filter (is_grave held) (λ (g : StoreRec). n < g.id) (map (λ (entry : StoreEntry). entry.store) stores) (All-map (λ (g : StoreRec). n < g.id) (λ (entry : StoreEntry). entry.store) stores h))

pub graves_rise : (held : List RegionBeat) (stores : List StoreEntry) → AreRising stores → AllPairs Below (graves_of held stores)
graves_rise held [] h = λ i j d less low. absurd (omega arith)
graves_rise held (e ∷ es) h = by (is_grave held e.store) (above held e.store.id es (pairs_head (λ (one later : StoreEntry). one.store.id < later.store.id) e es h)) (graves_rise held es (pairs_rest (λ (one later : StoreEntry). one.store.id < later.store.id) e es h))
  where
    by : (t : Bool) → All (λ (g : StoreRec). e.store.id < g.id) (graves_of held es) → AllPairs Below (graves_of held es)
        → AllPairs Below (map tombstone (cond t (e.store ∷ filter (is_grave held) (map (λ (entry : StoreEntry). entry.store) es)) (filter (is_grave held) (map (λ (entry : StoreEntry). entry.store) es))))
    by true first rest = AllPairs-cons Below (tombstone e.store) (graves_of held es) first rest
    by false first rest = rest

grave_state : (state : StoreState) (n : ℕ) → grave_by state n ≡ true → state ≡ Offline
grave_state Offline n h = refl
grave_state Up n h = absurd cc
grave_state Tombstone n h = absurd cc

first_state : (e : StoreEntry) (es : List StoreEntry) → state_at e.store.id (e ∷ es) ≡ Some e.store.state
first_state e es = ap (λ (t : Bool). option_map (λ (entry : StoreEntry). entry.store.state) (cond t (Some e) (entry_at e.store.id es))) (same_test e.store.id)

next_state : (e : StoreEntry) (es : List StoreEntry) (id : ℕ) → e.store.id < id → state_at id (e ∷ es) ≡ state_at id es
next_state e es id less = ap (λ (t : Bool). option_map (λ (entry : StoreEntry). entry.store.state) (cond t (Some e) (entry_at id es))) (other_test e.store.id id less)

pub graves_offline : (held : List RegionBeat) (stores : List StoreEntry) → AreRising stores → All (IsOffline stores) (graves_of held stores)
graves_offline held [] h = All-nil (IsOffline [])
graves_offline held (e ∷ es) h = by (is_grave held e.store) refl (graves_offline held es (pairs_rest (λ (one later : StoreEntry). one.store.id < later.store.id) e es h))
  where
    over : All (λ (g : StoreRec). e.store.id < g.id) (graves_of held es)
    over = above held e.store.id es (pairs_head (λ (one later : StoreEntry). one.store.id < later.store.id) e es h)

    later : All (IsOffline es) (graves_of held es) → All (IsOffline (e ∷ es)) (graves_of held es)
    later rest = λ k d low. next_state e es _ (over k d low) ∙ rest k d low

    by : (t : Bool) → is_grave held e.store ≡ t → All (IsOffline es) (graves_of held es)
        → All (IsOffline (e ∷ es)) (map tombstone (cond t (e.store ∷ filter (is_grave held) (map (λ (entry : StoreEntry). entry.store) es)) (filter (is_grave held) (map (λ (entry : StoreEntry). entry.store) es))))
    by true is rest =
        All-cons (IsOffline (e ∷ es)) (tombstone e.store) (graves_of held es) (first_state e es ∙ ap (λ (s : StoreState). Some s) (grave_state e.store.state (region_count e.store.id held) is)) (later rest)
    by false is rest = later rest

-- a store that is buried leaves the others as they are
pub buried_others : (id : ℕ) (stores : List StoreEntry) (other : ℕ) → other ≢ id → state_at other (changed id (in_state Tombstone) stores) ≡ state_at other stores
buried_others id stores other apart = ap (option_map (λ (entry : StoreEntry). entry.store.state)) (entry_kept id other (in_state Tombstone) stores (λ e. refl) apart)

-- of the stores that are left to be buried
pub left_rise : (graves : List StoreRec) (i : ℕ) (grave : StoreRec) → drop i graves ≡ grave ∷ drop (i + 1) graves → AllPairs Below (drop i graves) → AllPairs Below (drop (i + 1) graves)
left_rise graves i grave at h = pairs_rest Below grave (drop (i + 1) graves) (subst (λ (l : List StoreRec). AllPairs Below l) at h)

pub left_first : (graves : List StoreRec) (i : ℕ) (grave : StoreRec) (stores : List StoreEntry) → drop i graves ≡ grave ∷ drop (i + 1) graves → All (IsOffline stores) (drop i graves) → IsOffline stores grave
left_first graves i grave stores at h = let all : All (IsOffline stores) (grave ∷ drop (i + 1) graves) = subst (λ (l : List StoreRec). All (IsOffline stores) l) at h in all 0 grave (omega arith)

pub left_offline : (graves : List StoreRec) (i : ℕ) (grave : StoreRec) (old new : List StoreEntry) → drop i graves ≡ grave ∷ drop (i + 1) graves → AllPairs Below (drop i graves) → All (IsOffline old) (drop i graves)
    → ((other : ℕ) → other ≢ grave.id → state_at other new ≡ state_at other old) → All (IsOffline new) (drop (i + 1) graves)
left_offline graves i grave old new at rise h others = λ k d low. others _ (apart (over k d low)) ∙ rest k d low
  where
    over : All (Below grave) (drop (i + 1) graves)
    over = pairs_head Below grave (drop (i + 1) graves) (subst (λ (l : List StoreRec). AllPairs Below l) at rise)

    rest : All (IsOffline old) (drop (i + 1) graves)
    rest = all_rest (IsOffline old) grave (drop (i + 1) graves) (subst (λ (l : List StoreRec). All (IsOffline old) l) at h)

    apart : {n : ℕ} → grave.id < n → n ≢ grave.id
    apart {n} less same = absurd (omega (arith, less, same))

-- all of them, once a walk over the stores has ended
pub graves_end : (held : List RegionBeat) (stores : List StoreEntry) (place : ℕ) → length stores ≤ place → graves_of held (take place stores) ≡ graves_of held stores
graves_end held stores place end = ap (graves_of held) (take_all place stores end)

-- where a walk over the stores saw that they rise, or saw none
pub rise_end : (stores : List StoreEntry) (place : ℕ) → length stores ≤ place → (0 < place → AreRising stores) → AreRising stores
rise_end [] place end h = λ i j d less low. absurd (omega arith)
rise_end (e ∷ es) place end h = h (omega (arith, end))
