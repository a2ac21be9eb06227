-- The outlet to a store.
use Rattle.std.proofs.Common.{◌≡◌, ◌≢◌, ℕ, zero, suc, ◌<◌, ◌==◌, Bool, true, false, cond, filter, List, [], ◌∷◌, ◌++◌, get_or, length, map, refl, sym, ap, ◌∙◌, arith, subst, append_assoc, eq-eqb}
use Rattle.std.specs.Prelude.{All, Contains}
use mathlib.Core.Option.{some}
use lib.ListN.{get_elem?}
use Rattle.atomic_table.specs.Seated.{TableId}
use Rattle.pd_turn.specs.Turns.{AreApart}
use Rattle.std.proofs.lemmas.List.{append-nil, length-map}
use Rattle.std.proofs.lemmas.List.Elements.{All-push, Contains-get_or}
use Rattle.std.proofs.lemmas.List.Sorted.{Contains-permutation, IsPermutation-sym}
use Rattle.step_stream.specs.Streams.{TakerValue}
use Rattle.pd_shared.specs.Names.{StreamName, stream_name, streams_of}
use Rattle.pd_shared.specs.Outlets.{AreOutletsOf, OutletValue, named, outlet_of}
use Rattle.pd_run.specs.Ends.{HasOutlet, IsPlaceOf, IsSettled}

elem_at : (os : List OutletValue) (k : ℕ) (d : OutletValue) → k < length os → get_elem? (map (λ (o : OutletValue). o.store) os) k ≡ some (get_or os k d).store
elem_at [] k d lt = absurd (omega (arith, lt))
elem_at (o ∷ os) zero d lt = refl
elem_at (o ∷ os) (suc k) d lt = elem_at os k d (omega (arith, lt))

-- where no store stands twice, two outlets to one store are the same
one_place : (os : List OutletValue) (i j : ℕ) (d : OutletValue) → AreApart (map (λ (o : OutletValue). o.store) os) → i < length os → j < length os → (get_or os i d).store ≡ (get_or os j d).store → get_or os i d ≡ get_or os j d
one_place [] i j d apart low high same = absurd (omega (arith, low))
one_place (o ∷ os) zero zero d apart low high same = refl
one_place (o ∷ os) zero (suc j) d apart low high same = absurd (apart.0 (j, elem_at os j d (omega (arith, high)) ∙ ap some (sym same)))
one_place (o ∷ os) (suc i) zero d apart low high same = absurd (apart.0 (i, elem_at os i d (omega (arith, low)) ∙ ap some same))
one_place (o ∷ os) (suc i) (suc j) d apart low high same = one_place os i j d apart.1 (omega (arith, low)) (omega (arith, high)) same

pub stream_there : (os : List OutletValue) (store : ℕ) (stream : TableId) (place : ℕ) (o : OutletValue) → AreApart (map (λ (x : OutletValue). x.store) os) → HasOutlet os store stream → IsPlaceOf os store place → o ≡ get_or os place o → stream ≡ o.stream
stream_there os store stream place o apart has at is =
    let there = has.1 in
    let low = there.1 in
    let found : get_or os there.0 has.0 ≡ has.0 = there.2 in
    let alike : get_or os place has.0 ≡ get_or os there.0 has.0 = one_place os place there.0 has.0 apart at.within low (at.there has.0 ∙ sym (ap (λ (x : OutletValue). x.store) found ∙ has.2)) in
    sym has.3 ∙ ap (λ (x : OutletValue). x.stream) (sym found ∙ sym alike) ∙ ap (λ (x : OutletValue). x.stream) (one_read os place has.0 o at.within) ∙ ap (λ (x : OutletValue). x.stream) (sym is)
  where
    one_read : (xs : List OutletValue) (k : ℕ) (d e : OutletValue) → k < length xs → get_or xs k d ≡ get_or xs k e
    one_read [] k d e lt = absurd (omega (arith, lt))
    one_read (x ∷ xs) zero d e lt = refl
    one_read (x ∷ xs) (suc k) d e lt = one_read xs k d e (omega (arith, lt))

-- where some outlet is to the store, not all are to others
pub is_there : (os : List OutletValue) (store : ℕ) (stream : TableId) → HasOutlet os store stream → All (λ (o : OutletValue). o.store ≢ store) os → ⊥
is_there os store stream has none =
    let there = has.1 in
    let low = there.1 in
    none there.0 has.0 low (ap (λ (o : OutletValue). o.store) there.2 ∙ has.2)

-- OUTLETS BY THE NAMES OF THEIR STREAMS
-- what passes a test stays
stays : {A : Type 0} (test : A → Bool) (xs : List A) (x : A) → test x ≡ true → Contains xs x → Contains (filter test xs) x
stays test [] x passes held = absurd (omega (arith, held.1))
stays test (y ∷ ys) x passes (zero, low, at) = rw (ap test at ∙ passes) (0, omega arith, at)
stays test (y ∷ ys) x passes (suc k, low, at) = by (test y) (stays test ys x passes (k, omega arith, at))
  where
    by : (b : Bool) → Contains (filter test ys) x → Contains (cond b (y ∷ filter test ys) (filter test ys)) x
    by true rest = let within = rest.1 in (suc rest.0, omega arith, rest.2)
    by false rest = rest

named_outlet : (driver store : ℕ) (stream : TableId) (os : List OutletValue) (k : ℕ) (d : OutletValue) (n : StreamName) → k < length os → get_or (map (named driver) os) k n ≡ stream_name driver store stream → (get_or os k d).store ≡ store × ((get_or os k d).stream ≡ stream)
named_outlet driver store stream [] k d n lt is = absurd (omega (arith, lt))
named_outlet driver store stream (o ∷ os) zero d n lt is = (ap (λ (x : StreamName). x.store) is, ap (λ (x : StreamName). x.stream) is)
named_outlet driver store stream (o ∷ os) (suc k) d n lt is = named_outlet driver store stream os k d n (omega (arith, lt)) is

some_outlet : OutletValue
some_outlet = outlet_of 0 (record { words = 0; slots = 0; views_name = 0; atom = 0; block = 0; offset = 0; slot_names = [] }) []

pub has_outlet : (streams : List StreamName) (driver : ℕ) (os : List OutletValue) (store : ℕ) (stream : TableId) → AreOutletsOf streams driver os → Contains streams (stream_name driver store stream) → HasOutlet os store stream
has_outlet streams driver os store stream are held =
    let name : StreamName = stream_name driver store stream in
    let kept : Contains (streams_of driver streams) name = stays (λ (n : StreamName). n.driver == driver) streams name (eq-eqb driver driver refl) held in
    let there : Contains (map (named driver) os) name = Contains-permutation (streams_of driver streams) (map (named driver) os) name (IsPermutation-sym (map (named driver) os) (streams_of driver streams) are.listed) kept in
    let low : there.0 < length os = omega (arith, there.1, length-map os (named driver)) in
    let found = named_outlet driver store stream os there.0 some_outlet name low there.2 in
    (get_or os there.0 some_outlet, Contains-get_or os there.0 some_outlet low, found.0, found.1)

pub settled_more : (outlets : List OutletValue) (all left rest : List (ℕ × TakerValue)) (end : ℕ × TakerValue) → ((done : List (ℕ × TakerValue)) × (done ++ left ≡ all) × All (IsSettled outlets) done) → left ≡ end ∷ rest → IsSettled outlets end
    → (done : List (ℕ × TakerValue)) × (done ++ rest ≡ all) × All (IsSettled outlets) done
settled_more outlets all left rest end h is one =
    (h.0 ++ end ∷ [], append_assoc h.0 (end ∷ []) rest ∙ ap (λ l. h.0 ++ l) (sym is) ∙ h.1, All-push (IsSettled outlets) h.0 end h.2 one)

pub settled_all : (outlets : List OutletValue) (all left : List (ℕ × TakerValue)) → ((done : List (ℕ × TakerValue)) × (done ++ left ≡ all) × All (IsSettled outlets) done) → left ≡ [] → All (IsSettled outlets) all
settled_all outlets all left h none = subst (All (IsSettled outlets)) (sym (append-nil h.0) ∙ ap (λ l. h.0 ++ l) (sym none) ∙ h.1) h.2
