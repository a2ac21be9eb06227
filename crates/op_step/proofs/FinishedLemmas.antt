-- A step that is carried out is finished, and what a safe step asks of its peer.
use Rattle.std.proofs.Common.{refl, ◌≡◌, ◌≢◌, ℕ, suc, Bool, true, false, not, cond, ◌&&◌, ◌||◌, ◌==◌, nat_eq, List, [], ◌∷◌, ◌++◌, map, filter, get_or, All, AllPairs, Any, ap, sym, subst, ◌∙◌, arith}
use Rattle.std.specs.List.{list_any}
use Rattle.std.proofs.lemmas.List.Elements.{All-filter}
use Rattle.std.proofs.lemmas.List.Folds.{Any-from_list_any, list_any-append, list_any_none}
use Rattle.pd_types.specs.declared.region.Role.TheVariants.{Voter, Learner}
use Rattle.pd_types.specs.declared.region.Peer.{Peer}
use Rattle.pd_types.specs.declared.region.RegionBeat.{RegionBeat}
use Rattle.pd_types.specs.declared.step.Step.TheVariants as steps
use Rattle.store_table.specs.declared.entry.StoreEntry.{StoreEntry}
use Rattle.pd_types.specs.Roles.{is_learner}
use Rattle.store_table.specs.Entries.{is_live}
use Rattle.op_step.specs.Peers.{has_id, has_peer, has_store, is_down, is_peer, is_pending, is_target}
use Rattle.op_step.specs.Votes.{is_voter}
use Rattle.op_step.specs.After.{after, promoted}
use Rattle.op_step.specs.Finished.{is_finished}
use Rattle.op_step.specs.Safe.{is_right, IsFitToLead, IsSafe}
use Rattle.op_step.proofs.CarriedLemmas.{both, denied, equal, apart, same_number, unequal, votes}

-- AddLearner
there_already : (a b c : Bool) → ((not a && not b) || c) ≡ true → (a || b) ≡ true → c ≡ true
there_already true b true h k = refl
there_already true b false h k = absurd (cc)
there_already false true true h k = refl
there_already false true false h k = absurd (cc)
there_already false false c h k = absurd (cc)

last_one : (a : Bool) → ((a || true) && true) ≡ true
last_one true = refl
last_one false = refl

pub add_finishes : (id store now : ℕ) (beat : RegionBeat) (stores : List StoreEntry) → is_right (steps.AddLearner id store) beat stores now ≡ true → is_pending beat id ≡ false → is_finished (steps.AddLearner id store) (after (steps.AddLearner id store) beat) ≡ true
add_finishes id store now beat stores right fresh = by (has_id id beat || has_store store beat) refl
  where
    by : (b : Bool) → (has_id id beat || has_store store beat) ≡ b → (list_any (is_peer id store) (cond b beat.region.peers (beat.region.peers ++ record { id = id; store = store; role = Learner } ∷ [])) && not (is_pending beat id)) ≡ true
    by true is = rw (there_already (has_id id beat) (has_store store beat) (has_peer id store beat) right is, fresh) refl
    by false is =
        rw (list_any-append (is_peer id store) beat.region.peers (record { id = id; store = store; role = Learner } ∷ []), same_number id, same_number store, fresh)
        (last_one (list_any (is_peer id store) beat.region.peers))

-- PromoteLearner
abbrev is_voter_of : ℕ → Peer → Bool
is_voter_of id peer = peer.id == id && is_voter peer

or_right : (a b : Bool) → b ≡ true → (a || b) ≡ true
or_right true b h = refl
or_right false b h = h

promoted_votes : (id store : ℕ) (xs : List Peer) → list_any (is_peer id store) xs ≡ true → list_any (is_voter_of id) (map (promoted id store) xs) ≡ true
promoted_votes id store [] h = absurd (cc)
promoted_votes id store (x ∷ xs) h = by (is_peer id store x) refl h (promoted_votes id store xs)
  where
    by : (b : Bool) → is_peer id store x ≡ b → (b || list_any (is_peer id store) xs) ≡ true → (list_any (is_peer id store) xs ≡ true → list_any (is_voter_of id) (map (promoted id store) xs) ≡ true) → (is_voter_of id (cond b (record x { role = Voter }) x) || list_any (is_voter_of id) (map (promoted id store) xs)) ≡ true
    by true is h rest = rw (both (x.id == id) (x.store == store) is).0 refl
    by false is h rest = or_right (is_voter_of id x) _ (rest h)

pub promote_finishes : (id store : ℕ) (beat : RegionBeat) → has_peer id store beat ≡ true → is_finished (steps.PromoteLearner id store) (after (steps.PromoteLearner id store) beat) ≡ true
promote_finishes id store beat h = promoted_votes id store beat.region.peers h

pub learner_unfinished : (id store : ℕ) (beat : RegionBeat) → All (λ (peer : Peer). peer.id ≡ id → peer.role ≢ Voter) beat.region.peers → is_finished (steps.PromoteLearner id store) beat ≡ false
learner_unfinished id store beat none = list_any_none (is_voter_of id) beat.region.peers (λ k d low. by (get_or beat.region.peers k d) (is_voter_of id (get_or beat.region.peers k d)) refl (none k d low))
  where
    by : (p : Peer) (b : Bool) → is_voter_of id p ≡ b → (p.id ≡ id → p.role ≢ Voter) → is_voter_of id p ≡ false
    by p false is none = is
    by p true is none = let parts = both (p.id == id) (is_voter p) is in absurd (none (equal p.id id parts.0) (votes p.role p refl parts.1))

-- TransferLeader
pub transfer_finishes : (id store : ℕ) (beat : RegionBeat) → has_peer id store beat ≡ true → is_finished (steps.TransferLeader id store) (after (steps.TransferLeader id store) beat) ≡ true
transfer_finishes id store beat h = subst (λ leader. has_peer leader store beat ≡ true) (sym (ap (λ b. cond b id beat.leader) h)) h

pub lead_unfinished : (id store : ℕ) (beat : RegionBeat) → All (λ (peer : Peer). peer.id ≡ beat.leader → peer.store ≢ store) beat.region.peers → is_finished (steps.TransferLeader id store) beat ≡ false
lead_unfinished id store beat away = list_any_none (is_peer beat.leader store) beat.region.peers (λ k d low. by (get_or beat.region.peers k d) (is_peer beat.leader store (get_or beat.region.peers k d)) refl (away k d low))
  where
    by : (p : Peer) (b : Bool) → is_peer beat.leader store p ≡ b → (p.id ≡ beat.leader → p.store ≢ store) → is_peer beat.leader store p ≡ false
    by p false is away = is
    by p true is away = let parts = both (p.id == beat.leader) (p.store == store) is in absurd (away (equal p.id beat.leader parts.0) (equal p.store store parts.1))

-- RemovePeer
abbrev is_on : ℕ → Peer → Bool
is_on store peer = nat_eq peer.store store

emptied : (id store : ℕ) (xs : List Peer) → AllPairs (λ (a b : Peer). a.store ≢ b.store) xs → list_any (is_peer id store) xs ≡ true → list_any (is_on store) (filter (λ peer. not (is_peer id store peer)) xs) ≡ false
emptied id store [] pairs h = absurd (cc)
emptied id store (x ∷ xs) pairs h = by (is_peer id store x) refl h (emptied id store xs tail)
  where
    head : All (λ (q : Peer). x.store ≢ q.store) xs
    head k d low = pairs 0 (suc k) d (omega arith) (omega arith)

    tail : AllPairs (λ (a b : Peer). a.store ≢ b.store) xs
    tail i j d less low = pairs (suc i) (suc j) d (omega arith) (omega arith)

    away : Any (λ (q : Peer). is_peer id store q ≡ true) xs → x.store ≢ store
    away (k, q, low, at, is) same = head k q low (same ∙ sym (ap (λ (p : Peer). p.store) at ∙ equal q.store store (both (q.id == id) (q.store == store) is).1))

    by : (b : Bool) → is_peer id store x ≡ b → (b || list_any (is_peer id store) xs) ≡ true → (list_any (is_peer id store) xs ≡ true → list_any (is_on store) (filter (λ peer. not (is_peer id store peer)) xs) ≡ false) → list_any (is_on store) (cond (not b) (x ∷ filter (λ peer. not (is_peer id store peer)) xs) (filter (λ peer. not (is_peer id store peer)) xs)) ≡ false
    by true is h rest =
        let here : x.store ≡ store = equal x.store store (both (x.id == id) (x.store == store) is).1 in
        list_any_none (is_on store) (filter (λ peer. not (is_peer id store peer)) xs)
        (All-filter (λ peer. not (is_peer id store peer)) (λ (q : Peer). is_on store q ≡ false) xs (λ k d low. apart (get_or xs k d).store store (λ same. head k d low (here ∙ sym same))))
    by false is h rest = rw (apart x.store store (away (Any-from_list_any (is_peer id store) xs h))) (rest h)

pub remove_finishes : (id store : ℕ) (beat : RegionBeat) → AllPairs (λ (a b : Peer). a.store ≢ b.store) beat.region.peers → has_peer id store beat ≡ true → is_finished (steps.RemovePeer id store) (after (steps.RemovePeer id store) beat) ≡ true
remove_finishes id store beat pairs h = ap not (emptied id store beat.region.peers pairs h)

pub removal_unfinished : (id store : ℕ) (beat : RegionBeat) → has_store store beat ≡ true → is_finished (steps.RemovePeer id store) beat ≡ false
removal_unfinished id store beat h = ap not h

-- safe steps
pub leader_stays : (id store now : ℕ) (beat : RegionBeat) (stores : List StoreEntry) → IsSafe (steps.RemovePeer id store) beat stores now → beat.leader ≢ id
leader_stays id store now beat stores safe = unequal beat.leader id (denied (beat.leader == id) (both (has_peer id store beat) (not (beat.leader == id)) safe.target).1)

pub leader_is_fit : (id store now : ℕ) (beat : RegionBeat) (stores : List StoreEntry) → IsSafe (steps.TransferLeader id store) beat stores now → Any (IsFitToLead id store beat stores now) beat.region.peers
leader_is_fit id store now beat stores safe = by (Any-from_list_any (λ peer. is_peer id store peer && is_voter peer && is_target beat stores now peer) beat.region.peers safe.target)
  where
    by : Any (λ (peer : Peer). (is_peer id store peer && is_voter peer && is_target beat stores now peer) ≡ true) beat.region.peers → Any (IsFitToLead id store beat stores now) beat.region.peers
    by (k, p, low, at, is) =
        let first = both (is_peer id store p && is_voter p) (is_target beat stores now p) is in
        let second = both (is_peer id store p) (is_voter p) first.0 in
        let third = both (p.id == id) (p.store == store) second.0 in
        let target = both (is_live p.store now stores && not (is_down beat p.id)) (not (is_pending beat p.id)) first.1 in
        let reached = both (is_live p.store now stores) (not (is_down beat p.id)) target.0 in (
          k,
          p,
          low,
          at,
          record {
            named = equal p.id id third.0;
            there = equal p.store store third.1;
            voter = votes p.role p refl second.1;
            live = reached.0;
            up = denied (is_down beat p.id) reached.1;
            whole = denied (is_pending beat p.id) target.1;
          },
        )

-- a learner that is promoted is on a live store and isn't pending
pub learner_is_fit : (id store now : ℕ) (beat : RegionBeat) (stores : List StoreEntry) → IsSafe (steps.PromoteLearner id store) beat stores now → (is_live store now stores ≡ true) × (is_pending beat id ≡ false)
learner_is_fit id store now beat stores safe = by (Any-from_list_any (λ peer. is_peer id store peer && is_learner peer.role && is_live peer.store now stores && not (is_pending beat peer.id)) beat.region.peers safe.target)
  where
    by : Any (λ (peer : Peer). (is_peer id store peer && is_learner peer.role && is_live peer.store now stores && not (is_pending beat peer.id)) ≡ true) beat.region.peers → (is_live store now stores ≡ true) × (is_pending beat id ≡ false)
    by (k, p, low, at, is) =
        let first = both (is_peer id store p && is_learner p.role && is_live p.store now stores) (not (is_pending beat p.id)) is in
        let second = both (is_peer id store p && is_learner p.role) (is_live p.store now stores) first.0 in
        let third = both (is_peer id store p) (is_learner p.role) second.0 in
        let fourth = both (p.id == id) (p.store == store) third.0 in
        (subst (λ s. is_live s now stores ≡ true) (equal p.store store fourth.1) second.1, subst (λ i. is_pending beat i ≡ false) (equal p.id id fourth.0) (denied (is_pending beat p.id) first.1))
