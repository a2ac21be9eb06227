-- A region has as many peers as there are numbers that are ids of its peers.
use Rattle.std.proofs.Common.{refl, ◌≡◌, ◌≢◌, ℕ, zero, suc, ◌+◌, ◌<◌, ◌≤◌, nat_eq, Bool, true, false, cond, not, ◌||◌, List, [], ◌∷◌, length, arith}
use Rattle.std.proofs.lemmas.Bool.Decides.{nat_tests}
use Rattle.std.specs.List.{filter}
use Rattle.pd_types.specs.BeatCheck.{has_id}
use Rattle.pd_types.specs.declared.region.Peer.{Peer}

-- the peers without those of this id
abbrev others : ℕ → List Peer → List Peer
others id peers = filter (λ peer. not (nat_eq peer.id id)) peers

fewer_by : (b : Bool) (peer : Peer) (more rest : List Peer) → length rest ≤ length more → (b ≡ false → length rest + 1 ≤ length more) → length (cond (not b) (peer ∷ rest) rest) + 1 ≤ length (peer ∷ more)
fewer_by true peer more rest most h = omega (arith, most)
fewer_by false peer more rest most h = let less = h refl in omega (arith, less)

most_by : (b : Bool) (peer : Peer) (more rest : List Peer) → length rest ≤ length more → length (cond (not b) (peer ∷ rest) rest) ≤ length (peer ∷ more)
most_by true peer more rest most = omega (arith, most)
most_by false peer more rest most = omega (arith, most)

others_most : (id : ℕ) (peers : List Peer) → length (others id peers) ≤ length peers
others_most id [] = omega arith
others_most id (peer ∷ peers) = most_by (nat_eq peer.id id) peer peers (others id peers) (others_most id peers)

or_rest : (b rest : Bool) → (b || rest) ≡ true → b ≡ false → rest ≡ true
or_rest true rest h is = absurd cc
or_rest false rest h is = h

others_less : (id : ℕ) (peers : List Peer) → has_id peers id ≡ true → length (others id peers) + 1 ≤ length peers
others_less id [] h = absurd cc
others_less id (peer ∷ peers) h = fewer_by (nat_eq peer.id id) peer peers (others id peers) (others_most id peers) (λ is. others_less id peers (or_rest (nat_eq peer.id id) (has_id peers id) h is))

keep_by : (id other : ℕ) (peer : Peer) (peers : List Peer) (b : Bool) → (b ≡ true → nat_eq peer.id other ≡ false) → (nat_eq peer.id other || has_id peers other) ≡ true → (has_id peers other ≡ true → has_id (others id peers) other ≡ true)
    → has_id (cond (not b) (peer ∷ others id peers) (others id peers)) other ≡ true
keep_by id other peer peers true apart h rest = rest (or_rest (nat_eq peer.id other) (has_id peers other) h (apart refl))
keep_by id other peer peers false apart h rest = first (nat_eq peer.id other) h
  where
    first : (t : Bool) → (t || has_id peers other) ≡ true → (t || has_id (others id peers) other) ≡ true
    first true h = refl
    first false h = rest h

tell_apart : (a id other : ℕ) → other ≢ id → nat_eq a id ≡ true → nat_eq a other ≡ false
tell_apart a id other apart is = grind (arith, nat_tests)

others_keep : (id other : ℕ) (peers : List Peer) → other ≢ id → has_id peers other ≡ true → has_id (others id peers) other ≡ true
others_keep id other [] apart h = h
others_keep id other (peer ∷ peers) apart h = keep_by id other peer peers (nat_eq peer.id id) (tell_apart peer.id id other apart) h (others_keep id other peers apart)

below : (x a k : ℕ) → x ≤ a + k → x ≢ a + suc k
below x a k low same = absurd (omega (arith, low, same))

pub few_ids : (k a : ℕ) (peers : List Peer) → ((x : ℕ) → a < x → x ≤ a + k → has_id peers x ≡ true) → k ≤ length peers
few_ids zero a peers h = omega arith
few_ids (suc k) a peers h =
    let less = others_less (a + suc k) peers (h (a + suc k) (omega arith) (omega arith)) in
    let rest = few_ids k a (others (a + suc k) peers) (λ x low high. others_keep (a + suc k) x peers (below x a k high) (h x low (omega (arith, high)))) in
    omega (arith, less, rest)
