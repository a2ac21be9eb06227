-- What is dealt out, line by line, is the lines of each actor.
use Rattle.std.proofs.Common.{◌≡◌, ◌⊎◌, inl, inr, ℕ, ◌+◌, ◌-◌, ◌<◌, ◌≤◌, zero, suc, Bool, cond, eqb, List, [], ◌∷◌, ◌++◌, length, map, get_or, set, take, refl, sym, ap, subst, ◌∙◌, arith, Result, Ok, Err, Option, Some, None}
use Rattle.std.specs.Prelude.{Contains, MatchResult, flat_map, replicate}
use Rattle.std.specs.List.{cons_option, filter_map}
use Rattle.std.specs.List.Retain.{DiffersFromLast, IsFiltered}
use Rattle.std.specs.List.Sorted.{IsBinarySearchResult, IsPermutation, IsSorted, IsStrictlyIncreasing}
use Rattle.std.specs.Ordering.{nat_cmp}
use Rattle.std.specs.Vec.{vec_items}
use Rattle.std.proofs.Common.{Global, Vec}
use Rattle.std.proofs.lemmas.Bool.{cases_eq, cases_lt, cases_order, eq-eqb, ne_eqb}
use Rattle.std.proofs.lemmas.List.{append-nil, get_or-map, get_or-set_other, get_or-set_same, get_or_default, length-map, length-set, map-set, same_lists, take_all}
use Rattle.std.proofs.lemmas.List.Elements.{filter_map-append}
use Rattle.std.proofs.lemmas.List.Filters.{dedup_is}
use Rattle.std.proofs.lemmas.List.Kept.{AllPairs-from_increasing, Contains-dedup_nat, Contains-from_dedup}
use Rattle.std.proofs.lemmas.List.Sorted.{Contains-permutation, IsPermutation-sym, searched}
use Rattle.std.proofs.lemmas.Map.Keys.{IsStrictlyIncreasing-dedup, non_decreasing_from_sorted, sorted_from_strictly_increasing}
use Rattle.pd_script.specs.Scripts.{store_by}
use Rattle.pd_script.specs.declared.act.Line.{Line}
use Rattle.tso_model.specs.Moves.{numbers_from}
use Rattle.tso_model.proofs.Numbers.{numbers_at, numbers_length}
use Rattle.tso_run.specs.declared.line.ClientLine.{ClientLine}
use Rattle.pd_run.specs.declared.line.DriverLine.{DriverLine}
use Rattle.pd_run.specs.declared.line.StoreLine.{StoreLine}
use Rattle.pd_run.specs.declared.line.StoreLines.{StoreLines}
use Rattle.pd_run.specs.Runs.{lines_of}
use Rattle.pd_cluster.specs.Dealing.{Deals, HasDealtNothing, HasPlace, with_item, with_line, without_lines}
use Rattle.pd_cluster.specs.RunLines.{AreActing, ids_of, lines_of_clients, lines_of_driver, lines_of_store, of_client, of_driver, of_store, own_of}
use Rattle.pd_cluster.specs.declared.run_lines.Dealt.{Dealt}
use Rattle.pd_cluster.specs.declared.run_lines.Own.{Own}
use Rattle.pd_cluster.specs.declared.run_lines.Own.TheVariants.{Driver as OfDriver, Client as OfClient, Store as OfStore, Nobody}

-- THE STORES THAT ACT

pub are_acting : (lines : List Line) (i : ℕ) (pushed sorted stores : List ℕ) → length lines ≤ i → pushed ≡ flat_map (λ (line : Line). store_by line.actor) (take i lines)
    → IsPermutation pushed sorted → IsSorted nat_cmp sorted → IsFiltered (DiffersFromLast eqb) [] sorted stores → AreActing lines stores
are_acting lines i pushed sorted stores past before same rise left =
    let all : pushed ≡ flat_map (λ (line : Line). store_by line.actor) lines = before ∙ ap (λ (ls : List Line). flat_map (λ (line : Line). store_by line.actor) ls) (take_all i lines past) in
    let deduped = dedup_is eqb sorted stores left in
    record {
      rise = subst IsStrictlyIncreasing (sym deduped) (IsStrictlyIncreasing-dedup sorted rise);
      exactly = λ store. (
        (λ has. subst (λ (xs : List ℕ). Contains xs store) all (Contains-permutation sorted pushed store (IsPermutation-sym pushed sorted same) (Contains-from_dedup eqb sorted store (subst (λ (xs : List ℕ). Contains xs store) deduped has)))),
        (λ has. subst (λ (xs : List ℕ). Contains xs store) (sym deduped) (Contains-dedup_nat sorted store (Contains-permutation pushed sorted store same (subst (λ (xs : List ℕ). Contains xs store) (sym all) has)))),
      );
    }

-- where a search among rising ids ends
searched_at : (ids : List ℕ) (store : ℕ) (r : Result ℕ ℕ) → IsBinarySearchResult (λ y. nat_cmp y store) ids r → IsStrictlyIncreasing ids
    → MatchResult r (λ i. (i < length ids) × (get_or ids i 0 ≡ store)) (λ i. (i ≤ length ids) × ((k : ℕ) → k < i → get_or ids k 0 < store) × ((k : ℕ) → i ≤ k → k < length ids → store < get_or ids k 0))
searched_at ids store r position rise = searched ids store r position (λ i j le lt. non_decreasing_from_sorted ids (sorted_from_strictly_increasing ids rise) i j 0 le lt)

found_by : (ids : List ℕ) (store : ℕ) (r : Result ℕ ℕ)
    → MatchResult r (λ i. (i < length ids) × (get_or ids i 0 ≡ store)) (λ i. (i ≤ length ids) × ((k : ℕ) → k < i → get_or ids k 0 < store) × ((k : ℕ) → i ≤ k → k < length ids → store < get_or ids k 0))
    → Contains ids store → (i : ℕ) × (r ≡ Ok i)
found_by ids store (Ok i) there has = (i, refl)
found_by ids store (Err i) between (k, low, same) =
    let at : get_or ids k 0 ≡ store = get_or_default ids k 0 store low ∙ same in
    absurd (side k low at (cases_lt k i))
  where
    side : (k : ℕ) → k < length ids → get_or ids k 0 ≡ store → (k < i) ⊎ (i ≤ k) → ⊥
    side k low at (inl lt) = omega (arith, at, between.1 k lt)
    side k low at (inr le) = omega (arith, at, between.2 k le low)

-- a store that acts has a place
pub found : (ids found_in : List ℕ) (store : ℕ) (r : Result ℕ ℕ) → found_in ≡ ids → IsBinarySearchResult (λ y. nat_cmp y store) found_in r → IsStrictlyIncreasing ids → Contains ids store → (i : ℕ) × (r ≡ Ok i)
found ids found_in store r same position rise has = found_by ids store r (searched_at ids store r (subst (λ (xs : List ℕ). IsBinarySearchResult (λ y. nat_cmp y store) xs r) same position) rise) has

-- and the one that is found is its own
pub found_at : (ids found_in : List ℕ) (store place : ℕ) (r : Result ℕ ℕ) → found_in ≡ ids → r ≡ Ok place → IsBinarySearchResult (λ y. nat_cmp y store) found_in r → IsStrictlyIncreasing ids → (place < length ids) × (get_or ids place 0 ≡ store)
found_at ids found_in store place r same is position rise =
    searched_at ids store (Ok place) (subst (λ (xs : List ℕ). IsBinarySearchResult (λ y. nat_cmp y store) xs (Ok place)) same (subst (IsBinarySearchResult (λ y. nat_cmp y store) found_in) is position)) rise

pub own_at : (stores : List StoreLines) (ids : List ℕ) (place store : ℕ) (one : StoreLines) → map (λ (s : StoreLines). s.store) stores ≡ ids → place < length ids → get_or ids place 0 ≡ store → one ≡ get_or stores place one → one.store ≡ store
own_at stores ids place store one same lt at read =
    let low : place < length stores = omega (arith, lt, ap length same, length-map stores (λ (s : StoreLines). s.store)) in
    ap (λ (s : StoreLines). s.store) read ∙ sym (get_or-map (λ (s : StoreLines). s.store) stores place one 0 low) ∙ ap (λ (xs : List ℕ). get_or xs place 0) same ∙ at

pub place_of : (stores : List StoreLines) (ids : List ℕ) (place : ℕ) → map (λ (s : StoreLines). s.store) stores ≡ ids → place < length ids → place < length stores
place_of stores ids place same lt = omega (arith, lt, ap length same, length-map stores (λ (s : StoreLines). s.store))

-- ONE ITEM MORE

pub item_more : {A : Type 0} (lists : List (Vec A Global)) (i : ℕ) (old new : Vec A Global) (x : A) → i < length lists → old ≡ get_or lists i old → new.items ≡ old.items ++ x ∷ [] → map vec_items (set lists i new) ≡ with_item i x (map vec_items lists)
item_more {A = A} lists i old new x lt read pushed =
    map-set vec_items lists i new ∙ ap (λ (ys : List A). set (map vec_items lists) i ys) (pushed ∙ ap (λ (ys : List A). ys ++ x ∷ []) (ap vec_items read ∙ sym (get_or-map vec_items lists i old [] lt)))

pub line_more : (stores : List StoreLines) (i : ℕ) (old : StoreLines) (new : Vec StoreLine Global) (store : ℕ) (line : StoreLine) → i < length stores → old ≡ get_or stores i old → old.store ≡ store → new.items ≡ old.lines.items ++ line ∷ []
    → map lines_of (set stores i (record { store = old.store; lines = new })) ≡ with_line i store line (map lines_of stores)
line_more stores i old new store line lt read own pushed =
    let lines : new.items ≡ (get_or (map lines_of stores) i (without_lines store)).1 ++ line ∷ [] =
    pushed ∙ ap (λ (ys : List StoreLine). ys ++ line ∷ []) (ap (λ (s : StoreLines). (lines_of s).1) read ∙ ap (λ (p : ℕ × List StoreLine). p.1) (sym (get_or-map lines_of stores i old (without_lines store) lt))) in
    map-set lines_of stores i (record { store = old.store; lines = new }) ∙ ap (λ (p : ℕ × List StoreLine). set (map lines_of stores) i p) (λ j. (own j, lines j))

-- ALL LINES

-- a function of keys, and another that agrees with it but at one of them
module _ {A : Type 0} (f g : ℕ → A) where
  pub map_agree : (keys : List ℕ) → ((k : ℕ) → f k ≡ g k) → map f keys ≡ map g keys
  map_agree [] same = refl
  map_agree (k ∷ ks) same = λ i. same k i ∷ map_agree ks same i

  apart : (keys : List ℕ) (i k : ℕ) → IsStrictlyIncreasing keys → i < length keys → k < length keys → (k ≡ i → ⊥) → get_or keys k 0 ≡ get_or keys i 0 → ⊥
  apart keys i k rise lti ltk ne same =
      side (cases_order k i)
    where
      side : (k ≡ i) ⊎ ((k < i) ⊎ (i < k)) → ⊥
      side (inl e) = ne e
      side (inr (inl lt)) = omega (arith, same, AllPairs-from_increasing keys rise k i 0 lt lti)
      side (inr (inr lt)) = omega (arith, same, AllPairs-from_increasing keys rise i k 0 lt ltk)

  pub map_one : (keys : List ℕ) (i key : ℕ) → IsStrictlyIncreasing keys → i < length keys → get_or keys i 0 ≡ key → ((k : ℕ) → (k ≡ key → ⊥) → f k ≡ g k) → set (map f keys) i (g key) ≡ map g keys
  map_one keys i key rise lt at others =
      same_lists (set (map f keys) i (g key)) (map g keys) (length-set (map f keys) i (g key) ∙ length-map keys f ∙ sym (length-map keys g))
      (λ k d low. let ltk : k < length keys = omega (arith, low, length-set (map f keys) i (g key), length-map keys f) in by k d ltk (cases_eq k i))
    where
      by : (k : ℕ) (d : A) → k < length keys → (k ≡ i) ⊎ (k ≡ i → ⊥) → get_or (set (map f keys) i (g key)) k d ≡ get_or (map g keys) k d
      by k d ltk (inl same) =
          let lti : i < length (map f keys) = omega (arith, lt, length-map keys f) in
          ap (λ (m : ℕ). get_or (set (map f keys) i (g key)) m d) same ∙ get_or-set_same (map f keys) i (g key) d lti ∙ ap g (sym at)
          ∙ sym (get_or-map g keys i 0 d lt) ∙ ap (λ (m : ℕ). get_or (map g keys) m d) (sym same)
      by k d ltk (inr ne) =
          get_or-set_other (map f keys) i k (g key) d ne ∙ get_or-map f keys k 0 d ltk ∙ others (get_or keys k 0) (λ same. apart keys i k rise lt ltk ne (same ∙ sym at))
          ∙ sym (get_or-map g keys k 0 d ltk)

-- the numbers of drivers
numbers_rise : (first n : ℕ) → IsStrictlyIncreasing (numbers_from first n)
numbers_rise first n k lt =
    let low : k + 1 < n = omega (arith, lt, numbers_length first n) in
    omega (arith, numbers_at first n k (omega (arith, low)), numbers_at first n (k + 1) low)

-- what was dealt out of these lines
pub record IsDealt (drivers : ℕ) (lines : List Line) (dealt : Dealt) : Type 0 where
  pub drivers_are : map vec_items dealt.tasks.drivers.items ≡ map (λ (d : ℕ). lines_of_driver d lines) (numbers_from 1 drivers)
  pub clients_are : dealt.tasks.clients.items ≡ lines_of_clients lines
  pub stores_are : map lines_of dealt.tasks.stores.items ≡ map (λ (s : ℕ). (s, lines_of_store s lines)) dealt.ids.items

none_of_drivers : (first n : ℕ) → replicate n [] ≡ map (λ (d : ℕ). lines_of_driver d []) (numbers_from first n)
none_of_drivers first zero = refl
none_of_drivers first (suc n) = λ i. [] ∷ none_of_drivers (first + 1) n i

pub begins_so : (drivers : ℕ) (dealt : Dealt) → HasDealtNothing drivers dealt → IsDealt drivers [] dealt
begins_so drivers dealt none = record { drivers_are = none.drivers_are ∙ none_of_drivers 1 drivers; clients_are = none.clients_are; stores_are = none.stores_are }

-- a line more, where it is this one's and where it isn't
more_of : {B : Type 0} (h : Line → Option B) (lines : List Line) (line : Line) (b : B) → h line ≡ Some b → filter_map h (lines ++ line ∷ []) ≡ filter_map h lines ++ b ∷ []
more_of h lines line b is = filter_map-append h lines (line ∷ []) ∙ ap (λ (o : Option _). filter_map h lines ++ cons_option o []) is

none_of : {B : Type 0} (h : Line → Option B) (lines : List Line) (line : Line) → h line ≡ None → filter_map h lines ≡ filter_map h (lines ++ line ∷ [])
none_of h lines line is = sym (filter_map-append h lines (line ∷ []) ∙ ap (λ (o : Option _). filter_map h lines ++ cons_option o []) is ∙ append-nil (filter_map h lines))

module _ (drivers : ℕ) (lines : List Line) (line : Line) where
  abbrev more : List Line
  more = lines ++ line ∷ []

  drivers_stay : (own : Own) → own_of line.number line.act ≡ own → ((d : ℕ) → of_driver d own ≡ None) → (lists : List (List DriverLine)) → lists ≡ map (λ (d : ℕ). lines_of_driver d lines) (numbers_from 1 drivers)
      → lists ≡ map (λ (d : ℕ). lines_of_driver d more) (numbers_from 1 drivers)
  drivers_stay own is none lists before = before ∙ map_agree (λ (d : ℕ). lines_of_driver d lines) (λ (d : ℕ). lines_of_driver d more) (numbers_from 1 drivers)
      (λ d. none_of (λ (l : Line). of_driver d (own_of l.number l.act)) lines line (ap (of_driver d) is ∙ none d))

  clients_stay : (own : Own) → own_of line.number line.act ≡ own → of_client own ≡ None → (list : List ClientLine) → list ≡ lines_of_clients lines → list ≡ lines_of_clients more
  clients_stay own is none list before = before ∙ none_of (λ (l : Line). of_client (own_of l.number l.act)) lines line (ap of_client is ∙ none)

  stores_stay : (own : Own) → own_of line.number line.act ≡ own → ((s : ℕ) → of_store s own ≡ None) → (ids : List ℕ) (lists : List (ℕ × List StoreLine)) → lists ≡ map (λ (s : ℕ). (s, lines_of_store s lines)) ids
      → lists ≡ map (λ (s : ℕ). (s, lines_of_store s more)) ids
  stores_stay own is none ids lists before = before ∙ map_agree (λ (s : ℕ). (s, lines_of_store s lines)) (λ (s : ℕ). (s, lines_of_store s more)) ids
      (λ s. λ i. (s, none_of (λ (l : Line). of_store s (own_of l.number l.act)) lines line (ap (of_store s) is ∙ none s) i))

  -- a driver's line
  pub driver_more : (d : ℕ) (l : DriverLine) → own_of line.number line.act ≡ OfDriver d l → 0 < d → d ≤ drivers → (old new : List (List DriverLine)) → old ≡ map (λ (d : ℕ). lines_of_driver d lines) (numbers_from 1 drivers)
      → new ≡ with_item (d - 1) l old → new ≡ map (λ (d : ℕ). lines_of_driver d more) (numbers_from 1 drivers)
  driver_more d l is pos low old new before now =
      let keys : List ℕ = numbers_from 1 drivers in
      let f : ℕ → List DriverLine = λ (e : ℕ). lines_of_driver e lines in
      let g : ℕ → List DriverLine = λ (e : ℕ). lines_of_driver e more in
      let i : ℕ = d - 1 in
      let place : d - 1 < length keys = omega (arith, pos, low, numbers_length 1 drivers) in
      let at : get_or keys (d - 1) 0 ≡ d = numbers_at 1 drivers (d - 1) (omega (arith, pos, low)) ∙ (let e : 1 + (d - 1) ≡ d = omega (arith, pos) in e) in
      let here : g d ≡ f d ++ l ∷ [] = more_of (λ (m : Line). of_driver d (own_of m.number m.act)) lines line l (ap (of_driver d) is ∙ ap (λ (b : Bool). cond b (Some l) None) (eq-eqb d d refl)) in
      let there : get_or old (d - 1) [] ++ l ∷ [] ≡ g d = ap (λ (xs : List DriverLine). xs ++ l ∷ []) (ap (λ (xs : List (List DriverLine)). get_or xs (d - 1) []) before ∙ get_or-map f keys (d - 1) 0 [] place ∙ ap f at) ∙ sym here in
      now ∙ ap (λ (xs : List (List DriverLine)). set xs (d - 1) (get_or old (d - 1) [] ++ l ∷ [])) before ∙ ap (λ (xs : List DriverLine). set (map f keys) (d - 1) xs) there
      ∙ map_one f g keys (d - 1) d (numbers_rise 1 drivers) place at
      (λ k ne. none_of (λ (m : Line). of_driver k (own_of m.number m.act)) lines line (ap (of_driver k) is ∙ ap (λ (b : Bool). cond b (Some l) None) (ne_eqb d k (λ same. ne (sym same)))))

  -- a store's line
  pub store_more : (s place : ℕ) (l : StoreLine) → own_of line.number line.act ≡ OfStore s l → (ids : List ℕ) → IsStrictlyIncreasing ids → place < length ids → get_or ids place s ≡ s → (old new : List (ℕ × List StoreLine))
      → old ≡ map (λ (s : ℕ). (s, lines_of_store s lines)) ids → new ≡ with_line place s l old → new ≡ map (λ (s : ℕ). (s, lines_of_store s more)) ids
  store_more s place l is ids rise low own old new before now =
      let f : ℕ → ℕ × List StoreLine = λ (t : ℕ). (t, lines_of_store t lines) in
      let g : ℕ → ℕ × List StoreLine = λ (t : ℕ). (t, lines_of_store t more) in
      let at : get_or ids place 0 ≡ s = get_or_default ids place 0 s low ∙ own in
      let here : lines_of_store s more ≡ lines_of_store s lines ++ l ∷ [] = more_of (λ (m : Line). of_store s (own_of m.number m.act)) lines line l (ap (of_store s) is ∙ ap (λ (b : Bool). cond b (Some l) None) (eq-eqb s s refl)) in
      let had : (get_or old place (without_lines s)).1 ≡ lines_of_store s lines =
      ap (λ (xs : List (ℕ × List StoreLine)). (get_or xs place (without_lines s)).1) before ∙ ap (λ (p : ℕ × List StoreLine). p.1) (get_or-map f ids place 0 (without_lines s) low ∙ ap f at) in
      let there : (get_or old place (without_lines s)).1 ++ l ∷ [] ≡ lines_of_store s more = ap (λ (xs : List StoreLine). xs ++ l ∷ []) had ∙ sym here in
      now ∙ ap (λ (xs : List (ℕ × List StoreLine)). set xs place (s, (get_or old place (without_lines s)).1 ++ l ∷ [])) before ∙ ap (λ (xs : List StoreLine). set (map f ids) place (s, xs)) there
      ∙ map_one f g ids place s rise low at
      (λ k ne. λ i. (k, none_of (λ (m : Line). of_store k (own_of m.number m.act)) lines line (ap (of_store k) is ∙ ap (λ (b : Bool). cond b (Some l) None) (ne_eqb s k (λ same. ne (sym same)))) i))

  -- a client's line
  pub client_more : (l : ClientLine) → own_of line.number line.act ≡ OfClient l → (old new : List ClientLine) → old ≡ lines_of_clients lines → new ≡ old ++ l ∷ [] → new ≡ lines_of_clients more
  client_more l is old new before now = now ∙ ap (λ (xs : List ClientLine). xs ++ l ∷ []) before ∙ sym (more_of (λ (m : Line). of_client (own_of m.number m.act)) lines line l (ap of_client is))

-- whoever the line is for is one of the drivers or stores
abbrev pub IsFor : ℕ → List ℕ → Own → Type 0
IsFor drivers ids (OfDriver d l) = (0 < d) × (d ≤ drivers)
IsFor drivers ids (OfClient l) = Unit {0}
IsFor drivers ids (OfStore s l) = Contains ids s
IsFor drivers ids Nobody = Unit {0}

firsts : (stores : List StoreLines) → map (λ (s : StoreLines). s.store) stores ≡ map (λ (p : ℕ × List StoreLine). p.0) (map lines_of stores)
firsts [] = refl
firsts (s ∷ ss) = λ i. s.store ∷ firsts ss i

keys : (f : ℕ → List StoreLine) (ids : List ℕ) → map (λ (p : ℕ × List StoreLine). p.0) (map (λ (s : ℕ). (s, f s)) ids) ≡ ids
keys f [] = refl
keys f (s ∷ ss) = λ i. s ∷ keys f ss i

-- the stores that have lines are those that act
pub ids_are : (drivers : ℕ) (lines : List Line) (dealt : Dealt) → IsDealt drivers lines dealt → ids_of dealt.tasks ≡ dealt.ids.items
ids_are drivers lines dealt are = firsts dealt.tasks.stores.items ∙ ap (map (λ (p : ℕ × List StoreLine). p.0)) are.stores_are ∙ keys (λ (s : ℕ). lines_of_store s lines) dealt.ids.items

pub drivers_length : (drivers : ℕ) (lines : List Line) (dealt : Dealt) → IsDealt drivers lines dealt → length dealt.tasks.drivers.items ≡ drivers
drivers_length drivers lines dealt are =
    sym (length-map dealt.tasks.drivers.items vec_items) ∙ ap length are.drivers_are ∙ length-map (numbers_from 1 drivers) (λ (d : ℕ). lines_of_driver d lines) ∙ numbers_length 1 drivers

pub has_place : (drivers : ℕ) (lines : List Line) (dealt : Dealt) (own : Own) → IsDealt drivers lines dealt → IsStrictlyIncreasing dealt.ids.items → IsFor drivers dealt.ids.items own → HasPlace dealt own
has_place drivers lines dealt (OfDriver d l) are rise is = (is.0, omega (arith, is.1, drivers_length drivers lines dealt are))
has_place drivers lines dealt (OfClient l) are rise is = tt
has_place drivers lines dealt (OfStore s l) are rise is = (is, rise, ids_are drivers lines dealt are)
has_place drivers lines dealt Nobody are rise is = tt

pub same_ids : (own : Own) (old new : Dealt) → Deals own old new → new.ids.items ≡ old.ids.items
same_ids (OfDriver d l) old new deals = ap (λ (v : Vec ℕ Global). v.items) deals.3
same_ids (OfClient l) old new deals = ap (λ (v : Vec ℕ Global). v.items) deals.3
same_ids (OfStore s l) old new deals = ap (λ (v : Vec ℕ Global). v.items) deals.3
same_ids Nobody old new deals = ap (λ (dealt : Dealt). dealt.ids.items) deals

-- the lines with the next one
pub deals_more : (drivers : ℕ) (lines : List Line) (line : Line) (own : Own) (old new : Dealt) → own_of line.number line.act ≡ own → IsFor drivers old.ids.items own → IsStrictlyIncreasing old.ids.items
    → Deals own old new → IsDealt drivers lines old → IsDealt drivers (lines ++ line ∷ []) new
deals_more drivers lines line (OfDriver d l) old new is for rise deals are = record {
  drivers_are = driver_more drivers lines line d l is for.0 for.1 (map vec_items old.tasks.drivers.items) (map vec_items new.tasks.drivers.items) are.drivers_are deals.0;
  clients_are = clients_stay drivers lines line (OfDriver d l) is refl new.tasks.clients.items (ap (λ (v : Vec ClientLine Global). v.items) deals.1 ∙ are.clients_are);
  stores_are = stores_stay drivers lines line (OfDriver d l) is (λ s. refl) new.ids.items (map lines_of new.tasks.stores.items)
      (ap (λ (v : Vec StoreLines Global). map lines_of v.items) deals.2 ∙ are.stores_are ∙ ap (λ (v : Vec ℕ Global). map (λ (s : ℕ). (s, lines_of_store s lines)) v.items) (sym deals.3));
}
deals_more drivers lines line (OfClient l) old new is for rise deals are = record {
  drivers_are = drivers_stay drivers lines line (OfClient l) is (λ d. refl) (map vec_items new.tasks.drivers.items) (ap (λ (v : Vec (Vec DriverLine Global) Global). map vec_items v.items) deals.0 ∙ are.drivers_are);
  clients_are = client_more drivers lines line l is old.tasks.clients.items new.tasks.clients.items are.clients_are deals.1;
  stores_are = stores_stay drivers lines line (OfClient l) is (λ s. refl) new.ids.items (map lines_of new.tasks.stores.items)
      (ap (λ (v : Vec StoreLines Global). map lines_of v.items) deals.2 ∙ are.stores_are ∙ ap (λ (v : Vec ℕ Global). map (λ (s : ℕ). (s, lines_of_store s lines)) v.items) (sym deals.3));
}
deals_more drivers lines line (OfStore s l) old new is for rise deals are = record {
  drivers_are = drivers_stay drivers lines line (OfStore s l) is (λ d. refl) (map vec_items new.tasks.drivers.items) (ap (λ (v : Vec (Vec DriverLine Global) Global). map vec_items v.items) deals.0 ∙ are.drivers_are);
  clients_are = clients_stay drivers lines line (OfStore s l) is refl new.tasks.clients.items (ap (λ (v : Vec ClientLine Global). v.items) deals.1 ∙ are.clients_are);
  stores_are = store_more drivers lines line s deals.2.0 l is old.ids.items rise deals.2.1 deals.2.2 (map lines_of old.tasks.stores.items) (map lines_of new.tasks.stores.items) are.stores_are deals.2.3
      ∙ ap (λ (v : Vec ℕ Global). map (λ (t : ℕ). (t, lines_of_store t (lines ++ line ∷ []))) v.items) (sym deals.3);
}
deals_more drivers lines line Nobody old new is for rise deals are = record {
  drivers_are = drivers_stay drivers lines line Nobody is (λ d. refl) (map vec_items new.tasks.drivers.items) (ap (λ (dealt : Dealt). map vec_items dealt.tasks.drivers.items) deals ∙ are.drivers_are);
  clients_are = clients_stay drivers lines line Nobody is refl new.tasks.clients.items (ap (λ (dealt : Dealt). dealt.tasks.clients.items) deals ∙ are.clients_are);
  stores_are = stores_stay drivers lines line Nobody is (λ s. refl) new.ids.items (map lines_of new.tasks.stores.items)
      (ap (λ (dealt : Dealt). map lines_of dealt.tasks.stores.items) deals ∙ are.stores_are ∙ ap (λ (dealt : Dealt). map (λ (s : ℕ). (s, lines_of_store s lines)) dealt.ids.items) (sym deals));
}
