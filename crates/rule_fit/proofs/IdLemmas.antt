-- Sets of peers by their ids.
use Rattle.std.proofs.Common.{ℕ, zero, suc, Bool, true, false, not, ◌||◌, ◌≡◌, ◌≢◌, ◌+◌, ◌<◌, ◌≤◌, refl, ap, sym, ◌∙◌, List, [], ◌∷◌, ◌++◌, length, get_or, drop, Option, Some, None, arith, eqb, inl, inr}
use Rattle.std.specs.List.{slice_get, list_any, list_all}
use Rattle.std.proofs.lemmas.Bool.{cases_eq, cases_lt, eq-eqb, ne_eqb, or_right, and_parts, and_from, or_parts, eqb-false, eqb-true, not-true, true≢false}
use Rattle.std.proofs.lemmas.Option.{slice_get-get_or}
use Rattle.pd_types.specs.BeatCheck.{has_id}
use Rattle.pd_types.specs.declared.region.Peer.{Peer}
use Rattle.rule_fit.specs.Chosen.{listed}
use Rattle.rule_fit.specs.Search.{marked}
use Rattle.rule_fit.specs.Ids.{id_listed, chosen_by, AreApart, apart_test}
use Rattle.rule_fit.proofs.Totals.{listed_push, or_false}

-- the ids are those of the marked peers among the first k
pub record AreIds (ids : List ℕ) (peers : List Peer) (reached : List Bool) (k : ℕ) : Type 0 where
  pub here : (p : ℕ) → p < k → p < length peers → chosen_by ids peers p ≡ marked reached p
  pub past : (p : ℕ) → k ≤ p → p < length peers → chosen_by ids peers p ≡ false

no_ids : (one : Option Peer) → id_listed [] one ≡ false
no_ids None = refl
no_ids (Some peer) = refl

pub ids_none : (peers : List Peer) (reached : List Bool) → AreIds [] peers reached 0
ids_none peers reached = record {
  here = λ p h. absurd (omega arith);
  past = λ p h k. no_ids (slice_get peers p);
}

pub ids_skip : (ids : List ℕ) (peers : List Peer) (reached : List Bool) (k : ℕ) → AreIds ids peers reached k → marked reached k ≡ false → AreIds ids peers reached (k + 1)
ids_skip ids peers reached k are unmarked = record {
  here = λ p h i. elim (cases_lt p k) [
    | inl old ↦ are.here p old i
    | inr past ↦ let last : p ≡ k = omega arith in rw last (are.past k (omega arith) (omega arith) ∙ sym unmarked)
  ];
  past = λ p h i. are.past p (omega arith) i;
}

pushed_other : (ids : List ℕ) (peers : List Peer) (k p : ℕ) (peer : Peer) → AreApart peers → slice_get peers k ≡ Some peer → p ≢ k → p < length peers → chosen_by (ids ++ peer.id ∷ []) peers p ≡ chosen_by ids peers p
pushed_other ids peers k p peer apart at other inside =
    let q : Peer = get_or peers p peer in
    let there : slice_get peers p ≡ Some q = slice_get-get_or peers p peer inside in
    let differ : peer.id ≢ q.id = λ same. apart p k q peer other there at (sym same) in
    rw there (listed_push ids peer.id q.id ∙ rw (ne_eqb peer.id q.id differ) (or_false (listed ids q.id)))

pushed_same : (ids : List ℕ) (peers : List Peer) (k : ℕ) (peer : Peer) → slice_get peers k ≡ Some peer → chosen_by (ids ++ peer.id ∷ []) peers k ≡ true
pushed_same ids peers k peer at =
    rw at (listed_push ids peer.id peer.id ∙ or_right (listed ids peer.id) (eqb peer.id peer.id) (eq-eqb peer.id peer.id refl))

pub ids_push : (ids : List ℕ) (peers : List Peer) (reached : List Bool) (k : ℕ) (peer : Peer) → AreIds ids peers reached k → AreApart peers → slice_get peers k ≡ Some peer → marked reached k ≡ true → AreIds (ids ++ peer.id ∷ []) peers reached (k + 1)
ids_push ids peers reached k peer are apart at mark = record {
  here = λ p h i. elim (cases_eq p k) [
    | inl same ↦ rw same (pushed_same ids peers k peer at ∙ sym mark)
    | inr other ↦ pushed_other ids peers k p peer apart at other i ∙ are.here p (omega arith) i
  ];
  past = λ p h i. let other : p ≢ k = omega arith in pushed_other ids peers k p peer apart at other i ∙ are.past p (omega arith) i;
}

pub ids_push_at : (d : Peer) (ids : List ℕ) (peers : List Peer) (reached : List Bool) (k : ℕ) → AreIds ids peers reached k → AreApart peers → k < length peers → marked reached k ≡ true → AreIds (ids ++ (get_or peers k d).id ∷ []) peers reached (k + 1)
ids_push_at d ids peers reached k are apart below mark = ids_push ids peers reached k (get_or peers k d) are apart (slice_get-get_or peers k d below) mark

any_at : {X : Type 0} (p : X → Bool) (xs : List X) (k : ℕ) (d : X) → k < length xs → p (get_or xs k d) ≡ true → list_any p xs ≡ true
any_at p [] k d below passes = absurd (omega arith)
any_at p (x ∷ xs) zero d below passes = rw passes refl
any_at p (x ∷ xs) (suc k) d below passes = or_right (p x) (list_any p xs) (any_at p xs k d (omega arith) passes)

all_push : {X : Type 0} (p : X → Bool) (xs : List X) (y : X) → list_all p xs ≡ true → p y ≡ true → list_all p (xs ++ y ∷ []) ≡ true
all_push p [] y all passes = rw passes refl
all_push p (x ∷ xs) y all passes =
    let parts = and_parts (p x) (list_all p xs) all in
    and_from (p x) (list_all p (xs ++ y ∷ [])) parts.0 (all_push p xs y parts.1 passes)

-- the id of a peer at a place is put at the end
pub peer_push : (d : Peer) (peers : List Peer) (ids : List ℕ) (k : ℕ) → k < length peers → list_all (has_id peers) ids ≡ true → list_all (has_id peers) (ids ++ (get_or peers k d).id ∷ []) ≡ true
peer_push d peers ids k below inside =
    all_push (has_id peers) ids (get_or peers k d).id inside (any_at (λ (peer : Peer). eqb peer.id (get_or peers k d).id) peers k d below (eq-eqb (get_or peers k d).id (get_or peers k d).id refl))

other_id : (peers : List Peer) (id : ℕ) (j : ℕ) (b : Peer) → has_id peers id ≡ false → slice_get peers j ≡ Some b → b.id ≢ id
other_id [] id j b none at = absurd (cc)
other_id (peer ∷ peers) id zero b none at =
    let here : peer ≡ b = cc in
    let parts = or_parts (eqb peer.id id) (has_id peers id) none in
    λ same. eqb-false peer.id id parts.0 (ap (λ (p : Peer). p.id) here ∙ same)
other_id (peer ∷ peers) id (suc j) b none at =
    let parts = or_parts (eqb peer.id id) (has_id peers id) none in other_id peers id j b parts.1 at

-- the test shows that no two peers have one id
pub test_apart : (peers : List Peer) → apart_test peers ≡ true → AreApart peers
test_apart [] told i j a b other at_i at_j = absurd (cc)
test_apart (peer ∷ peers) told zero zero a b other at_i at_j = absurd (other refl)
test_apart (peer ∷ peers) told zero (suc j) a b other at_i at_j =
    let here : peer ≡ a = cc in
    let parts = and_parts (not (has_id peers peer.id)) (apart_test peers) told in
    λ same. other_id peers peer.id j b (not-true (has_id peers peer.id) parts.0) at_j (sym same ∙ sym (ap (λ (p : Peer). p.id) here))
test_apart (peer ∷ peers) told (suc i) zero a b other at_i at_j =
    let here : peer ≡ b = cc in
    let parts = and_parts (not (has_id peers peer.id)) (apart_test peers) told in
    λ same. other_id peers peer.id i a (not-true (has_id peers peer.id) parts.0) at_i (same ∙ sym (ap (λ (p : Peer). p.id) here))
test_apart (peer ∷ peers) told (suc i) (suc j) a b other at_i at_j =
    let parts = and_parts (not (has_id peers peer.id)) (apart_test peers) told in
    test_apart peers parts.1 i j a b (λ same. other (ap suc same)) at_i at_j

-- the peer that has an id
found_peer : (peers : List Peer) (id : ℕ) → has_id peers id ≡ true → (j : ℕ) × (b : Peer) × (slice_get peers j ≡ Some b) × (b.id ≡ id)
found_peer [] id found = absurd (true≢false (sym found))
found_peer (peer ∷ peers) id found = by (eqb peer.id id) refl (found_peer peers id)
  where
    by : (same : Bool) → eqb peer.id id ≡ same → (has_id peers id ≡ true → (j : ℕ) × (b : Peer) × (slice_get peers j ≡ Some b) × (b.id ≡ id)) → (j : ℕ) × (b : Peer) × (slice_get (peer ∷ peers) j ≡ Some b) × (b.id ≡ id)
    by true is behind = (0, peer, refl, eqb-true peer.id id is)
    by false is behind =
        let rest = behind (sym (ap (λ (t : Bool). t || has_id peers id) is) ∙ found) in (suc rest.0, rest.1, rest.2, rest.3)

-- the test passes where no two peers have one id
pub apart_passes : (peers : List Peer) → AreApart peers → apart_test peers ≡ true
apart_passes [] apart = refl
apart_passes (peer ∷ peers) apart =
    and_from (not (has_id peers peer.id)) (apart_test peers) (by (has_id peers peer.id) refl) (apart_passes peers (λ i j a b other at_i at_j. apart (suc i) (suc j) a b (λ same. other (omega (arith, same))) at_i at_j))
  where
    by : (known : Bool) → has_id peers peer.id ≡ known → not (has_id peers peer.id) ≡ true
    by false is = ap not is
    by true is =
        let found = found_peer peers peer.id is in absurd (apart 0 (suc found.0) peer found.1 (λ same. omega (arith, same)) refl found.2 (sym found.3))

gone : {X : Type 0} (xs : List X) (n : ℕ) → length xs ≤ n → drop n xs ≡ []
gone [] zero low = refl
gone [] (suc n) low = refl
gone (x ∷ xs) zero low = absurd (omega arith)
gone (x ∷ xs) (suc n) low = gone xs n (omega arith)

-- the test of what is left at the end
pub apart_end : (peers : List Peer) (n : ℕ) → length peers ≤ n → apart_test (drop n peers) ≡ apart_test peers → AreApart peers
apart_end peers n low same = test_apart peers (sym same ∙ ap apart_test (gone peers n low))

-- the test fails where a peer has the id of one behind it
pub apart_fails : (peers : List Peer) → false ≡ apart_test peers → AreApart peers → ⊥
apart_fails peers fails apart = true≢false (sym (apart_passes peers apart) ∙ sym fails)
