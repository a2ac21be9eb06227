-- The tests of a region heartbeat: the first that fails has the least number, and one that passes all is well formed.
use Rattle.std.proofs.Common.{refl, ◌≡◌, ◌≢◌, ℕ, zero, suc, ◌+◌, ◌-◌, ◌<◌, ◌≤◌, ◌⊎◌, inl, inr, Bool, true, false, not, cond, ◌&&◌, ◌||◌, nat_eq, nat_lt, List, [], ◌∷◌, length, get_or, slice_get, Option, Some, None, ap, sym, ◌∙◌, arith}
use Rattle.std.proofs.lemmas.Bool.{true≢false}
use Rattle.std.proofs.lemmas.Bool.Decides.{nat_tests}
use Rattle.std.proofs.lemmas.List.Folds.{Any-from_list_any, list_any-from_Any, list_any_at, list_any_none}
use Rattle.std.proofs.lemmas.List.Kept.{AllPairs-cons}
use Rattle.std.specs.List.{find, list_any, All, AllPairs, Any}
use Rattle.pd_types.specs.BeatCheck.{fails, fault_number, first_fault, has_id, has_store, leader_is_no_voter, shares_id, shares_store, tests}
use Rattle.pd_types.specs.WellFormed.{IsLeastFault, IsWellFormed, Leads}
use Rattle.pd_types.specs.Roles.{is_voter}
use Rattle.pd_types.specs.declared.beat.BeatFault.{BeatFault}
use Rattle.pd_types.specs.declared.beat.BeatFault.TheVariants.{NoPeers, TooManyPeers, DoublePeer, DoubleStore, LeaderAbsent, LeaderNotVoter, BadRange, LongKey}
use Rattle.pd_types.specs.declared.region.Peer.{Peer}
use Rattle.pd_types.specs.declared.region.RegionBeat.{RegionBeat}
use Rattle.pd_types.specs.declared.region.Role.{Role}
use Rattle.pd_types.specs.declared.region.Role.TheVariants.{Voter, Learner, Incoming, Demoting}
use Rattle.pd_types.specs.Keys.{is_bad_range, is_below}
use Rattle.pd_types.proofs.Pairs.{pairs_head, pairs_nil, pairs_tail}
use Rattle.pd_types.proofs.Bools.{not_false, or_both, or_false}

placed : (fault : BeatFault) → slice_get tests (fault_number fault - 1) ≡ Some fault
placed NoPeers = refl
placed TooManyPeers = refl
placed DoublePeer = refl
placed DoubleStore = refl
placed LeaderAbsent = refl
placed LeaderNotVoter = refl
placed BadRange = refl
placed LongKey = refl

one_number : (a b : BeatFault) → fault_number a ≡ fault_number b → a ≡ b
one_number a b same =
    let left = placed a in
    let right = placed b in
    let between : slice_get tests (fault_number a - 1) ≡ slice_get tests (fault_number b - 1) = ap (λ n. slice_get tests (n - 1)) same in
    cc

-- the numbers of the list go up by one, from this one on
abbrev IsNumbered : ℕ → List BeatFault → Type 0
IsNumbered n [] = Unit {0}
IsNumbered n (x ∷ xs) = (fault_number x ≡ n) × IsNumbered (n + 1) xs

found : (p : BeatFault → Bool) (x y : BeatFault) (rest : List BeatFault) → find p (x ∷ rest) ≡ Some y → ((p x ≡ true) × (y ≡ x)) ⊎ ((p x ≡ false) × (find p rest ≡ Some y))
found p x y rest h = by (p x) refl h
  where
    by : (b : Bool) → p x ≡ b → cond b (Some x) (find p rest) ≡ Some y → ((p x ≡ true) × (y ≡ x)) ⊎ ((p x ≡ false) × (find p rest ≡ Some y))
    by true is h = inl (is, cc)
    by false is h = inr (is, h)

climb : (p : BeatFault → Bool) (n : ℕ) (xs : List BeatFault) → IsNumbered n xs → ((g : BeatFault) → fault_number g < n → p g ≡ false) → (y : BeatFault) → find p xs ≡ Some y → (g : BeatFault) → p g ≡ true → fault_number y ≤ fault_number g
climb p n [] numbered below y h g t = absurd (cc)
climb p n (x ∷ xs) numbered below y h g t = by (found p x y xs h) (λ fails later. climb p (n + 1) xs numbered.1 (past fails) y later g t)
  where
    not_below : fault_number g < n → ⊥
    not_below less = true≢false (sym t ∙ below g less)

    past : p x ≡ false → (f : BeatFault) → fault_number f < n + 1 → p f ≡ false
    past fails f less = by (order (fault_number f) n less)
      where
        order : (a b : ℕ) → a < b + 1 → (a < b) ⊎ (a ≡ b)
        order a b h = grind arith

        by : (fault_number f < n) ⊎ (fault_number f ≡ n) → p f ≡ false
        by (inl lower) = below f lower
        by (inr same) = ap p (one_number f x (same ∙ sym numbered.0)) ∙ fails

    by : ((p x ≡ true) × (y ≡ x)) ⊎ ((p x ≡ false) × (find p xs ≡ Some y)) → (p x ≡ false → find p xs ≡ Some y → fault_number y ≤ fault_number g) → fault_number y ≤ fault_number g
    by (inl here) deep =
        let number : fault_number y ≡ n = ap fault_number here.1 ∙ numbered.0 in
        by_order (order (fault_number g) n) number
      where
        order : (a b : ℕ) → (a < b) ⊎ (b ≤ a)
        order a b = grind arith

        by_order : (fault_number g < n) ⊎ (n ≤ fault_number g) → fault_number y ≡ n → fault_number y ≤ fault_number g
        by_order (inl less) number = absurd (not_below less)
        by_order (inr more) number = omega arith
    by (inr later) deep = deep later.0 later.1

none_before : (p : BeatFault → Bool) (g : BeatFault) → fault_number g < 1 → p g ≡ false
none_before p NoPeers less = absurd (omega arith)
none_before p TooManyPeers less = absurd (omega arith)
none_before p DoublePeer less = absurd (omega arith)
none_before p DoubleStore less = absurd (omega arith)
none_before p LeaderAbsent less = absurd (omega arith)
none_before p LeaderNotVoter less = absurd (omega arith)
none_before p BadRange less = absurd (omega arith)
none_before p LongKey less = absurd (omega arith)

holds_itself : (p : BeatFault → Bool) (xs : List BeatFault) (y : BeatFault) → find p xs ≡ Some y → p y ≡ true
holds_itself p [] y h = absurd (cc)
holds_itself p (x ∷ xs) y h = by (found p x y xs h) (holds_itself p xs y)
  where
    by : ((p x ≡ true) × (y ≡ x)) ⊎ ((p x ≡ false) × (find p xs ≡ Some y)) → (find p xs ≡ Some y → p y ≡ true) → p y ≡ true
    by (inl here) deep = ap p here.1 ∙ here.0
    by (inr later) deep = deep later.1

pub first_least : (beat : RegionBeat) (fault : BeatFault) → first_fault beat ≡ Some fault → IsLeastFault beat fault
first_least beat fault h = record {
  failed = holds_itself (fails beat) tests fault h;
  least = climb (fails beat) 1 tests (refl, (refl, (refl, (refl, (refl, (refl, (refl, (refl, tt)))))))) (none_before (fails beat)) fault h;
}

-- no other peer has the first one's number
apart_first : (f : Peer → ℕ) (x : Peer) (xs : List Peer) → list_any (λ peer. nat_eq (f peer) (f x)) xs ≡ false → All (λ b. f x ≢ f b) xs
apart_first f x xs none k d low same =
    true≢false (sym (list_any_at (λ peer. nat_eq (f peer) (f x)) xs k d low (equal (f (get_or xs k d)) (f x) (sym same))) ∙ none)
  where
    equal : (a b : ℕ) → a ≡ b → nat_eq a b ≡ true
    equal a b h = grind (arith, nat_tests)

first_apart : (f : Peer → ℕ) (x : Peer) (xs : List Peer) → All (λ b. f x ≢ f b) xs → list_any (λ peer. nat_eq (f peer) (f x)) xs ≡ false
first_apart f x xs apart = list_any_none (λ peer. nat_eq (f peer) (f x)) xs (λ k d low. other (f (get_or xs k d)) (f x) (λ same. apart k d low (sym same)))
  where
    other : (a b : ℕ) → a ≢ b → nat_eq a b ≡ false
    other a b h = grind (arith, nat_tests)

pub ids_apart : (peers : List Peer) → shares_id peers ≡ false → AllPairs (λ (a b : Peer). a.id ≢ b.id) peers
ids_apart [] none = pairs_nil (λ (a b : Peer). a.id ≢ b.id)
ids_apart (x ∷ xs) none =
    let parts = or_false (has_id xs x.id) (shares_id xs) none in
    AllPairs-cons (λ (a b : Peer). a.id ≢ b.id) x xs (apart_first (λ peer. peer.id) x xs parts.0) (ids_apart xs parts.1)

apart_ids : (peers : List Peer) → AllPairs (λ (a b : Peer). a.id ≢ b.id) peers → shares_id peers ≡ false
apart_ids [] apart = refl
apart_ids (x ∷ xs) apart =
    or_both (has_id xs x.id) (shares_id xs)
    (first_apart (λ peer. peer.id) x xs (pairs_head (λ (a b : Peer). a.id ≢ b.id) x xs apart))
    (apart_ids xs (pairs_tail (λ (a b : Peer). a.id ≢ b.id) x xs apart))

pub stores_apart : (peers : List Peer) → shares_store peers ≡ false → AllPairs (λ (a b : Peer). a.store ≢ b.store) peers
stores_apart [] none = pairs_nil (λ (a b : Peer). a.store ≢ b.store)
stores_apart (x ∷ xs) none =
    let parts = or_false (has_store xs x.store) (shares_store xs) none in
    AllPairs-cons (λ (a b : Peer). a.store ≢ b.store) x xs (apart_first (λ peer. peer.store) x xs parts.0) (stores_apart xs parts.1)

apart_stores : (peers : List Peer) → AllPairs (λ (a b : Peer). a.store ≢ b.store) peers → shares_store peers ≡ false
apart_stores [] apart = refl
apart_stores (x ∷ xs) apart =
    or_both (has_store xs x.store) (shares_store xs)
    (first_apart (λ peer. peer.store) x xs (pairs_head (λ (a b : Peer). a.store ≢ b.store) x xs apart))
    (apart_stores xs (pairs_tail (λ (a b : Peer). a.store ≢ b.store) x xs apart))

votes : (role : Role) → is_voter role ≡ true → role ≡ Voter
votes Voter h = refl
votes Learner h = absurd (cc)
votes Incoming h = absurd (cc)
votes Demoting h = absurd (cc)

led : (leader : ℕ) (peers : List Peer) → has_id peers leader ≡ true → leader_is_no_voter peers leader ≡ false → Any (Leads leader) peers
led leader peers present voter = by (Any-from_list_any (λ peer. nat_eq peer.id leader) peers present)
  where
    clear : (t : Bool) (a b : ℕ) → nat_eq a b ≡ true → a ≡ b
    clear t a b h = grind (arith, nat_tests)

    not_other : (b : Bool) → b ≡ true → b ≡ false → ⊥
    not_other b h k = true≢false (sym h ∙ k)

    by_role : (peer : Peer) (k : ℕ) → k < length peers → get_or peers k peer ≡ peer → nat_eq peer.id leader ≡ true → (role : Bool) → is_voter peer.role ≡ role → is_voter peer.role ≡ true
    by_role peer k low at same true is = is
    by_role peer k low at same false is =
        let test : Peer → Bool = λ other. nat_eq other.id leader && not (is_voter other.role) in
        let here : test (get_or peers k peer) ≡ true = rw (at, same, is) refl in
        absurd (true≢false (sym (list_any_at test peers k peer low here) ∙ voter))

    by : Any (λ peer. nat_eq peer.id leader ≡ true) peers → Any (Leads leader) peers
    by (k, peer, low, at, same) =
        (k, peer, low, at, record { id = clear true peer.id leader same; votes = votes peer.role (by_role peer k low at same (is_voter peer.role) refl) })

not_first : (b : Bool) (x : BeatFault) (rest : Option BeatFault) → cond b (Some x) rest ≡ None → (b ≡ false) × (rest ≡ None)
not_first true x rest h = absurd (cc)
not_first false x rest h = (refl, h)

some_peers : (n : ℕ) → nat_eq n 0 ≡ false → 1 ≤ n
some_peers n h = grind (arith, nat_tests)

at_most : (n : ℕ) (most : ℕ) → nat_lt most n ≡ false → n ≤ most
at_most n most h = grind (arith, nat_tests)

rises : (start end : List ℕ) → is_bad_range start end ≡ false → (end ≡ []) ⊎ (is_below start end ≡ true)
rises start [] h = inl refl
rises start (byte ∷ end) h = inr (past (nat_eq (length (byte ∷ end)) 0) (is_below start (byte ∷ end)) (some (length end)) h)
  where
    some : (n : ℕ) → nat_eq (suc n) 0 ≡ false
    some n = grind (arith, nat_tests)

    past : (a b : Bool) → a ≡ false → not (a || b) ≡ false → b ≡ true
    past true b is h = absurd (cc)
    past false b is h = not_false b h

pub passes_formed : (beat : RegionBeat) → first_fault beat ≡ None → IsWellFormed beat
passes_formed beat h =
    let peers = beat.region.peers in
    let a = not_first (fails beat NoPeers) NoPeers _ h in
    let b = not_first (fails beat TooManyPeers) TooManyPeers _ a.1 in
    let c = not_first (fails beat DoublePeer) DoublePeer _ b.1 in
    let d = not_first (fails beat DoubleStore) DoubleStore _ c.1 in
    let e = not_first (fails beat LeaderAbsent) LeaderAbsent _ d.1 in
    let f = not_first (fails beat LeaderNotVoter) LeaderNotVoter _ e.1 in
    let g = not_first (fails beat BadRange) BadRange _ f.1 in
    let i = not_first (fails beat LongKey) LongKey _ g.1 in
    let keys = or_false (nat_lt 4096 (length beat.region.start)) (nat_lt 4096 (length beat.region.end)) i.0 in
    record {
      some = some_peers (length peers) a.0;
      few = at_most (length peers) 15 b.0;
      ids = ids_apart peers c.0;
      stores = stores_apart peers d.0;
      leader = led beat.leader peers (not_false (has_id peers beat.leader) e.0) f.0;
      range = rises beat.region.start beat.region.end g.0;
      start = at_most (length beat.region.start) 4096 keys.0;
      end = at_most (length beat.region.end) 4096 keys.1;
    }

not_none : (n : ℕ) → 1 ≤ n → nat_eq n 0 ≡ false
not_none n h = grind (arith, nat_tests)

not_more : (n most : ℕ) → n ≤ most → nat_lt most n ≡ false
not_more n most h = grind (arith, nat_tests)

holds_range : (start end : List ℕ) → (end ≡ []) ⊎ (is_below start end ≡ true) → is_bad_range start end ≡ false
holds_range start end (inl none) = rw none refl
holds_range start end (inr below) = rw below (either (nat_eq (length end) 0))
  where
    either : (a : Bool) → not (a || true) ≡ false
    either true = refl
    either false = refl

-- two peers of one id are one peer
one_place : (xs : List Peer) (i j : ℕ) (x : Peer) → AllPairs (λ (a b : Peer). a.id ≢ b.id) xs → i < length xs → j < length xs → (get_or xs i x).id ≡ (get_or xs j x).id → i ≡ j
one_place xs i j x apart low high same = by (order i j)
  where
    order : (a b : ℕ) → ((a < b) ⊎ (b < a)) ⊎ (a ≡ b)
    order a b = grind arith

    by : ((i < j) ⊎ (j < i)) ⊎ (i ≡ j) → i ≡ j
    by (inl (inl less)) = absurd (apart i j x less high same)
    by (inl (inr more)) = absurd (apart j i x more low (sym same))
    by (inr one) = one

-- a peer within the list is the same whatever stands for one beyond it
same_peer : (xs : List Peer) (i : ℕ) (a b : Peer) → i < length xs → get_or xs i a ≡ get_or xs i b
same_peer [] i a b low = absurd (omega arith)
same_peer (x ∷ xs) zero a b low = refl
same_peer (x ∷ xs) (suc i) a b low = same_peer xs i a b (omega arith)

-- the peer has the leader's id, and no vote
abbrev fails_to_vote : ℕ → Peer → Bool
fails_to_vote leader other = nat_eq other.id leader && not (is_voter other.role)

voter_leads : (leader : ℕ) (peers : List Peer) → AllPairs (λ (a b : Peer). a.id ≢ b.id) peers → Any (Leads leader) peers → leader_is_no_voter peers leader ≡ false
voter_leads leader peers apart (k, peer, low, at, leads) = list_any_none (fails_to_vote leader) peers each
  where
    each : All (λ other. fails_to_vote leader other ≡ false) peers
    each j d within = by (nat_eq (get_or peers j d).id leader) refl
      where
        clear : (a b : ℕ) → nat_eq a b ≡ true → a ≡ b
        clear a b h = grind (arith, nat_tests)

        voter : get_or peers j d ≡ peer → fails_to_vote leader (get_or peers j d) ≡ false
        voter same = rw (same, leads.votes) (and_no (nat_eq peer.id leader))
          where
            and_no : (a : Bool) → a && false ≡ false
            and_no true = refl
            and_no false = refl

        by : (b : Bool) → nat_eq (get_or peers j d).id leader ≡ b → fails_to_vote leader (get_or peers j d) ≡ false
        by false is = rw is refl
        by true is =
            let other : get_or peers j d ≡ get_or peers j peer = same_peer peers j d peer within in
            let id : (get_or peers j peer).id ≡ (get_or peers k peer).id =
            ap (λ (p : Peer). p.id) (sym other) ∙ clear (get_or peers j d).id leader is ∙ sym leads.id ∙ sym (ap (λ (p : Peer). p.id) at) in
            let one : j ≡ k = one_place peers j k peer apart within low id in
            voter (other ∙ ap (λ n. get_or peers n peer) one ∙ at)

present : (leader : ℕ) (peers : List Peer) → Any (Leads leader) peers → has_id peers leader ≡ true
present leader peers (k, peer, low, at, leads) =
    list_any-from_Any (λ other. nat_eq other.id leader) peers (k, peer, low, at, equal peer.id leader leads.id)
  where
    equal : (a b : ℕ) → a ≡ b → nat_eq a b ≡ true
    equal a b h = grind (arith, nat_tests)

pub formed_passes : (beat : RegionBeat) → IsWellFormed beat → first_fault beat ≡ None
formed_passes beat formed =
    let peers = beat.region.peers in
    let a = not_none (length peers) formed.some in
    let b = not_more (length peers) 15 formed.few in
    let c = apart_ids peers formed.ids in
    let d = apart_stores peers formed.stores in
    let e = present beat.leader peers formed.leader in
    let f = voter_leads beat.leader peers formed.ids formed.leader in
    let g = holds_range beat.region.start beat.region.end formed.range in
    let i = not_more (length beat.region.start) 4096 formed.start in
    let j = not_more (length beat.region.end) 4096 formed.end in
    rw (a, b, c, d, e, f, g, i, j) refl
