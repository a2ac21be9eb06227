-- What the steps of a wish leave, carried out one after the other.
use Rattle.std.proofs.Common.{refl, ◌≡◌, ◌≢◌, ℕ, zero, suc, ◌⊎◌, inl, inr, Bool, true, false, not, cond, ◌&&◌, ◌==◌, List, [], ◌∷◌, ◌++◌, map, filter, find, get_or, Option, Some, None, Ok, Err, IsTrue, All, AllPairs, Contains, ap, sym, subst, ◌∙◌, arith, true≢false}
use Rattle.std.specs.List.{list_any}
use Rattle.std.proofs.lemmas.Bool.Decides.{nat_tests}
use Rattle.std.proofs.lemmas.List.Elements.{All-cons, All-head, All-tail, All-push, All-contains, All-filter, filter-append, filter_passes, Contains-append_left, Contains-get_or, Contains-push}
use Rattle.std.proofs.lemmas.List.Folds.{list_any_at, list_any_none}
use Rattle.pd_types.specs.declared.region.Role.{Role}
use Rattle.pd_types.specs.declared.region.Role.TheVariants.{Voter, Learner, Incoming, Demoting}
use Rattle.pd_types.specs.declared.region.Peer.{Peer}
use Rattle.pd_types.specs.declared.region.RegionBeat.{RegionBeat}
use Rattle.pd_types.specs.declared.step.Step.{Step}
use Rattle.pd_types.specs.declared.step.Step.TheVariants as steps
use Rattle.store_table.specs.declared.entry.StoreEntry.{StoreEntry}
use Rattle.store_table.specs.Entries.{is_usable}
use Rattle.op_step.specs.declared.wishes.Wish.TheVariants as wish
use Rattle.op_step.specs.declared.wishes.BuildFault.{BuildFault}
use Rattle.op_step.specs.declared.wishes.BuildFault.TheVariants as faults
use Rattle.op_step.specs.Peers.{has_peer, has_store, is_peer, is_target, peer_on}
use Rattle.op_step.specs.Votes.{is_voter}
use Rattle.op_step.specs.After.{after, peers_after, promoted}
use Rattle.op_step.specs.NextLeader.{IsNext}
use Rattle.op_step.specs.Wishes.{Plan, is_unknown, given, step_with, may_lead, next_leader, lead_by, next_part, move_by, plan_of, remove_by, remove_leader}
use Rattle.op_step.specs.Carried.{HasLeft, HasMoved, HasNew, IsLedFrom, IsThereFirst, MayTake, left_by}
use Rattle.op_step.proofs.NextLemmas.{next-is-least}

-- tests on numbers
pub same_number : (a : ℕ) → (a == a) ≡ true
same_number a = grind (arith, nat_tests)

pub apart : (a b : ℕ) → a ≢ b → (a == b) ≡ false
apart a b h = grind (arith, nat_tests)

pub equal : (a b : ℕ) → (a == b) ≡ true → a ≡ b
equal a b h = grind (arith, nat_tests)

pub unequal : (a b : ℕ) → (a == b) ≡ false → a ≢ b
unequal a b h = grind (arith, nat_tests)

pub both : (a b : Bool) → (a && b) ≡ true → (a ≡ true) × (b ≡ true)
both true b h = (refl, h)
both false b h = absurd (cc)

pub denied : (b : Bool) → not b ≡ true → b ≡ false
denied true h = absurd (cc)
denied false h = refl

pub votes : (role : Role) → (p : Peer) → p.role ≡ role → is_voter p ≡ true → p.role ≡ Voter
votes Voter p is h = is
votes Learner p is h = absurd (cc)
votes Incoming p is h = absurd (cc)
votes Demoting p is h = absurd (cc)

-- the tests of a plan
guard : (b : Bool) (fault : BuildFault) (rest : Plan) (list : List Step) → cond b (Err fault) rest ≡ Ok list → (b ≡ false) × (rest ≡ Ok list)
guard true fault rest list h = absurd (cc)
guard false fault rest list h = (refl, h)

one_list : (plan : Plan) (a b : List Step) → plan ≡ Ok a → plan ≡ Ok b → a ≡ b
one_list plan a b h k = cc

-- peers
itself : (p : Peer) → is_peer p.id p.store p ≡ true
itself p = rw (same_number p.id, same_number p.store) refl

another : (id store : ℕ) (p : Peer) → p.id ≢ id → is_peer id store p ≡ false
another id store p differs = rw (apart p.id id differs) refl

present : (p : Peer) (beat : RegionBeat) → Contains beat.region.peers p → has_peer p.id p.store beat ≡ true
present p beat held = list_any_at (is_peer p.id p.store) beat.region.peers held.0 p held.1 (ap (is_peer p.id p.store) held.2 ∙ itself p)

found : (p : Peer → Bool) (x y : Peer) (rest : List Peer) → find p (x ∷ rest) ≡ Some y → ((p x ≡ true) × (y ≡ x)) ⊎ ((p x ≡ false) × (find p rest ≡ Some y))
found p x y rest h = by (p x) refl h
  where
    by : (b : Bool) → p x ≡ b → cond b (Some x) (find p rest) ≡ Some y → ((p x ≡ true) × (y ≡ x)) ⊎ ((p x ≡ false) × (find p rest ≡ Some y))
    by true is h = inl (is, cc)
    by false is h = inr (is, h)

-- a peer that is found is held, on the store
held : (s : ℕ) (p : Peer) (xs : List Peer) → find (λ (q : Peer). q.store == s) xs ≡ Some p → Contains xs p × (p.store ≡ s)
held s p [] h = absurd (cc)
held s p (x ∷ xs) h = by (found (λ (q : Peer). q.store == s) x p xs h) (held s p xs)
  where
    by : (((x.store == s) ≡ true) × (p ≡ x)) ⊎ (((x.store == s) ≡ false) × (find (λ (q : Peer). q.store == s) xs ≡ Some p)) → (find (λ (q : Peer). q.store == s) xs ≡ Some p → Contains xs p × (p.store ≡ s)) → Contains (x ∷ xs) p × (p.store ≡ s)
    by (inl here) deep = ((0, omega arith, sym here.1), ap (λ (q : Peer). q.store) here.1 ∙ equal x.store s here.0)
    by (inr later) deep = let rest = deep later.1 in let low = rest.0.1 in ((suc rest.0.0, omega arith, rest.0.2), rest.1)

-- where no two peers are on one store, it is the only one there
only : (s : ℕ) (p : Peer) (xs : List Peer) → AllPairs (λ (a b : Peer). a.store ≢ b.store) xs → find (λ (q : Peer). q.store == s) xs ≡ Some p → All (λ (q : Peer). q.store ≡ s → q ≡ p) xs
only s p [] pairs h = absurd (cc)
only s p (x ∷ xs) pairs h = by (found (λ (q : Peer). q.store == s) x p xs h) (only s p xs (λ i j d less low. pairs (suc i) (suc j) d (omega arith) (omega arith)))
  where
    by : (((x.store == s) ≡ true) × (p ≡ x)) ⊎ (((x.store == s) ≡ false) × (find (λ (q : Peer). q.store == s) xs ≡ Some p)) → (find (λ (q : Peer). q.store == s) xs ≡ Some p → All (λ (q : Peer). q.store ≡ s → q ≡ p) xs) → All (λ (q : Peer). q.store ≡ s → q ≡ p) (x ∷ xs)
    by (inl here) deep =
        All-cons (λ (q : Peer). q.store ≡ s → q ≡ p) x xs (λ _. sym here.1)
        (λ k d low at. absurd (pairs 0 (suc k) d (omega arith) (omega arith) (equal x.store s here.0 ∙ sym at)))
    by (inr later) deep = All-cons (λ (q : Peer). q.store ≡ s → q ≡ p) x xs (λ at. absurd (unequal x.store s later.0 at)) (deep later.1)

-- the others
abbrev stays : Peer → Peer → Bool
stays p q = not (is_peer p.id p.store q)

remains : (t : Peer → Bool) (xs : List Peer) (q : Peer) → t q ≡ true → Contains xs q → Contains (filter t xs) q
remains t [] q passes c = absurd (omega (arith, c.1))
remains t (x ∷ xs) q passes (zero, low, at) = rw (ap t at ∙ passes) (0, omega arith, at)
remains t (x ∷ xs) q passes (suc k, low, at) = by (t x) (remains t xs q passes (k, omega arith, at))
  where
    by : (b : Bool) → Contains (filter t xs) q → Contains (cond b (x ∷ filter t xs) (filter t xs)) q
    by true rest = let within = rest.1 in (suc rest.0, omega arith, rest.2)
    by false rest = rest

elsewhere : (p q : Peer) → q.store ≢ p.store → stays p q ≡ true
elsewhere p q away = rw (apart q.store p.store away) (neither (q.id == p.id))
  where
    neither : (b : Bool) → not (b && false) ≡ true
    neither true = refl
    neither false = refl

emptied : (s : ℕ) (p : Peer) (xs : List Peer) → All (λ (q : Peer). q.store ≡ s → q ≡ p) xs → All (λ (q : Peer). q.store ≢ s) (filter (stays p) xs)
emptied s p xs single k d low at =
    let is = All-filter (stays p) (λ (q : Peer). q.store ≡ s → q ≡ p) xs single k d low at in
    let passes = filter_passes (stays p) xs k d low in
    true≢false (sym (sym (ap (stays p) is) ∙ passes) ∙ ap not (itself p))

-- a new peer's two steps
pub new_learner : (id store : ℕ) (xs : List Peer) → All (λ (q : Peer). q.id ≢ id) xs → list_any (λ (q : Peer). q.store == store) xs ≡ false → peers_after (steps.AddLearner id store) xs ≡ xs ++ record { id = id; store = store; role = Learner } ∷ []
new_learner id store xs new free =
    rw (list_any_none (λ (q : Peer). q.id == id) xs (λ k d low. apart (get_or xs k d).id id (new k d low)), free) refl

pub new_voter : (id store : ℕ) (xs : List Peer) → All (λ (q : Peer). q.id ≢ id) xs → map (promoted id store) (xs ++ record { id = id; store = store; role = Learner } ∷ []) ≡ xs ++ record { id = id; store = store; role = Voter } ∷ []
new_voter id store [] new = rw (same_number id, same_number store) refl
new_voter id store (x ∷ xs) new =
    rw (another id store x (All-head (λ (q : Peer). q.id ≢ id) x xs new), new_voter id store xs (All-tail (λ (q : Peer). q.id ≢ id) x xs new)) refl

-- AddPeer: the new peer is a voter
pub adds : (store id now : ℕ) (beat : RegionBeat) (stores : List StoreEntry) (list : List Step) → MayTake id beat → plan_of (wish.AddPeer store) beat stores now ≡ Ok list → HasNew id store Voter (left_by id list beat)
adds store id now beat stores list may h =
    let a = guard (is_unknown store stores) faults.UnknownStore _ list h in
    let b = guard (not (is_usable store now stores)) faults.NotUsable _ list a.1 in
    let c = guard (has_store store beat) faults.HasPeer _ list b.1 in
    let peers : (left_by id (steps.AddLearner 0 store ∷ steps.PromoteLearner 0 store ∷ []) beat).region.peers ≡ beat.region.peers ++ record { id = id; store = store; role = Voter } ∷ [] =
    ap (map (promoted id store)) (new_learner id store beat.region.peers may.new c.0) ∙ new_voter id store beat.region.peers may.new in
    subst (λ l. HasNew id store Voter (left_by id l beat)) (one_list _ _ list refl c.1)
    (subst (λ ps. Contains ps (record { id = id; store = store; role = Voter })) (sym peers) (Contains-push beat.region.peers _))

-- an id that isn't 0 stays
pub kept_id : (id peer : ℕ) → peer ≢ 0 → given id peer ≡ peer
kept_id id peer some = rw (apart peer 0 some) refl

-- TransferLeader: the peer on the store leads
leads_now : (id : ℕ) (p : Peer) (beat : RegionBeat) → p.id ≢ 0 → Contains beat.region.peers p → (left_by id (steps.TransferLeader p.id p.store ∷ []) beat).leader ≡ p.id
leads_now id p beat some at = rw (kept_id id p.id some, present p beat at) refl

transfers_by : (store id : ℕ) (beat : RegionBeat) (list : List Step) (o : Option Peer) → MayTake id beat → peer_on store beat ≡ o → lead_by o beat ≡ Ok list → IsLedFrom store (left_by id list beat)
transfers_by store id beat list None may on h = absurd (cc)
transfers_by store id beat list (Some p) may on h =
    let a = guard (p.id == beat.leader) faults.IsLeader _ list h in
    let b = guard (not (is_voter p)) faults.NotVoter _ list a.1 in
    let at = held store p beat.region.peers on in
    let some = All-contains (λ (q : Peer). q.id ≢ 0) beat.region.peers p may.given at.0 in
    let voter = votes p.role p refl (seen (is_voter p) b.0) in
    subst (λ l. IsLedFrom store (left_by id l beat)) (one_list _ _ list refl b.1)
    (at.0.0, p, at.0.1, at.0.2, (at.1, record { id = sym (leads_now id p beat some at.0); votes = voter }))
  where
    seen : (b : Bool) → not b ≡ false → b ≡ true
    seen true h = refl
    seen false h = absurd (cc)

pub transfers : (store id now : ℕ) (beat : RegionBeat) (stores : List StoreEntry) (list : List Step) → MayTake id beat → plan_of (wish.TransferLeader store) beat stores now ≡ Ok list → IsLedFrom store (left_by id list beat)
transfers store id now beat stores list may h =
    let a = guard (is_unknown store stores) faults.UnknownStore _ list h in
    transfers_by store id beat list (peer_on store beat) may refl a.1

-- what the last step leaves of the region before it, whose leader is another
left_after : (s id : ℕ) (p : Peer) (beat mid : RegionBeat) → MayTake id beat → peer_on s beat ≡ Some p → All (λ (q : Peer). q.store ≡ s → q ≡ p) mid.region.peers → ((q : Peer) → Contains beat.region.peers q → Contains mid.region.peers q) → mid.leader ≢ p.id → HasLeft s beat (left_by id (steps.RemovePeer p.id p.store ∷ []) mid)
left_after s id p beat mid may on single same_peers other =
    let at = held s p beat.region.peers on in
    let some = kept_id id p.id (All-contains (λ (q : Peer). q.id ≢ 0) beat.region.peers p may.given at.0) in
    let first = only s p beat.region.peers may.stores on in
    record {
      gone = rw some (emptied s p mid.region.peers single);
      leader = λ k d low there same. other (same ∙ ap (λ (q : Peer). q.id) (first k d low there));
      others = λ k d low away. rw some (remains (stays p) mid.region.peers (get_or beat.region.peers k d) (elsewhere p (get_or beat.region.peers k d) (λ same. away (same ∙ at.1))) (same_peers (get_or beat.region.peers k d) (Contains-get_or beat.region.peers k d low)));
    }

-- RemovePeer: no peer is on the store, and another one leads
next_apart : (beat : RegionBeat) (stores : List StoreEntry) (now : ℕ) (next : Peer) → IsTrue (may_lead beat stores now next) → next.id ≢ beat.leader
next_apart beat stores now next able =
    let first = both (is_voter next && not (next.id == beat.leader)) (is_target beat stores now next) able in
    unequal next.id beat.leader (denied (next.id == beat.leader) (both (is_voter next) (not (next.id == beat.leader)) first.0).1)

removes_leader : (s id now : ℕ) (beat : RegionBeat) (stores : List StoreEntry) (list : List Step) (p : Peer) (o : Option Peer) → MayTake id beat → peer_on s beat ≡ Some p → p.id ≡ beat.leader → IsNext beat stores now o → remove_leader p o ≡ Ok list → HasLeft s beat (left_by id list beat)
removes_leader s id now beat stores list p None may on leads none h = absurd (cc)
removes_leader s id now beat stores list p (Some next) may on leads least h =
    let some = All-contains (λ (q : Peer). q.id ≢ 0) beat.region.peers next may.given least.held in
    let lead = leads_now id next beat some least.held in
    let mid : RegionBeat = left_by id (steps.TransferLeader next.id next.store ∷ []) beat in
    subst (λ l. HasLeft s beat (left_by id l beat)) (one_list _ _ list refl h)
    (left_after s id p beat mid may on (only s p beat.region.peers may.stores on) (λ q held. held) (λ same. next_apart beat stores now next least.able (sym lead ∙ same ∙ leads)))

removes_by : (s id now : ℕ) (beat : RegionBeat) (stores : List StoreEntry) (list : List Step) (o : Option Peer) → MayTake id beat → peer_on s beat ≡ o → remove_by o beat stores now ≡ Ok list → HasLeft s beat (left_by id list beat)
removes_by s id now beat stores list None may on h = absurd (cc)
removes_by s id now beat stores list (Some p) may on h = by (p.id == beat.leader) refl h
  where
    by : (b : Bool) → (p.id == beat.leader) ≡ b → cond b (remove_leader p (next_leader beat stores now)) (Ok (steps.RemovePeer p.id p.store ∷ [])) ≡ Ok list → HasLeft s beat (left_by id list beat)
    by true leads h = removes_leader s id now beat stores list p (next_leader beat stores now) may on (equal p.id beat.leader leads) (next-is-least beat stores now) h
    by false other h =
        subst (λ l. HasLeft s beat (left_by id l beat)) (one_list _ _ list refl h)
        (left_after s id p beat beat may on (only s p beat.region.peers may.stores on) (λ q held. held) (λ same. unequal p.id beat.leader other (sym same)))

pub removes : (store id now : ℕ) (beat : RegionBeat) (stores : List StoreEntry) (list : List Step) → MayTake id beat → plan_of (wish.RemovePeer store) beat stores now ≡ Ok list → HasLeft store beat (left_by id list beat)
removes store id now beat stores list may h =
    let a = guard (is_unknown store stores) faults.UnknownStore _ list h in
    removes_by store id now beat stores list (peer_on store beat) may refl a.1

-- MovePeer: the new peer's part, a learner or a voter
abbrev role_for : Bool → Role
role_for true = Voter
role_for false = Learner

abbrev promotion : Bool → ℕ → List Step
promotion true to = steps.PromoteLearner 0 to ∷ []
promotion false to = []

-- the region once the new peer is there
record Joined (id to : ℕ) (role : Role) (beat mid : RegionBeat) : Type 0 where
  peers : mid.region.peers ≡ beat.region.peers ++ record { id = id; store = to; role = role } ∷ []
  leader : mid.leader ≡ beat.leader

joins : (b : Bool) (id to : ℕ) (beat : RegionBeat) → MayTake id beat → has_store to beat ≡ false → Joined id to (role_for b) beat (left_by id (steps.AddLearner 0 to ∷ promotion b to) beat)
joins true id to beat may free = record {
  peers = ap (map (promoted id to)) (new_learner id to beat.region.peers may.new free) ∙ new_voter id to beat.region.peers may.new;
  leader = refl;
}
joins false id to beat may free = record { peers = new_learner id to beat.region.peers may.new free; leader = refl }

-- and once another peer than the moved one leads
record Ready (id to : ℕ) (role : Role) (p : Peer) (beat mid : RegionBeat) : Type 0 where
  peers : mid.region.peers ≡ beat.region.peers ++ record { id = id; store = to; role = role } ∷ []
  leader : mid.leader ≢ p.id

next_leads : (id to now : ℕ) (role : Role) (p : Peer) (beat mid : RegionBeat) (stores : List StoreEntry) (o : Option Peer) → MayTake id beat → Contains beat.region.peers p → p.id ≡ beat.leader → IsNext beat stores now o → Joined id to role beat mid → Ready id to role p beat (left_by id (next_part o to) mid)
next_leads id to now role p beat mid stores None may at leads none joined =
    let new : Contains mid.region.peers (record { id = id; store = to; role = role }) = subst (λ ps. Contains ps (record { id = id; store = to; role = role })) (sym joined.peers) (Contains-push beat.region.peers _) in
    let lead : (left_by id (steps.TransferLeader 0 to ∷ []) mid).leader ≡ id = rw (present (record { id = id; store = to; role = role }) mid new) refl in
    record { peers = joined.peers; leader = λ same. All-contains (λ (q : Peer). q.id ≢ id) beat.region.peers p may.new at (sym same ∙ lead) }
next_leads id to now role p beat mid stores (Some next) may at leads least joined =
    let some = All-contains (λ (q : Peer). q.id ≢ 0) beat.region.peers next may.given least.held in
    let there : Contains mid.region.peers next = subst (λ ps. Contains ps next) (sym joined.peers) (Contains-append_left beat.region.peers _ next least.held) in
    let lead = leads_now id next mid some there in
    record { peers = joined.peers; leader = λ same. next_apart beat stores now next least.able (sym lead ∙ same ∙ leads) }

abbrev lead_if : Bool → Option Peer → ℕ → List Step
lead_if true o to = next_part o to
lead_if false o to = []

readies : (b : Bool) (id to now : ℕ) (role : Role) (p : Peer) (beat mid : RegionBeat) (stores : List StoreEntry) → (p.id == beat.leader) ≡ b → MayTake id beat → Contains beat.region.peers p → Joined id to role beat mid → Ready id to role p beat (left_by id (lead_if b (next_leader beat stores now) to) mid)
readies true id to now role p beat mid stores is may at joined = next_leads id to now role p beat mid stores (next_leader beat stores now) may at (equal p.id beat.leader is) (next-is-least beat stores now) joined
readies false id to now role p beat mid stores is may at joined =
    record { peers = joined.peers; leader = λ same. unequal p.id beat.leader is (sym same ∙ joined.leader) }

carried-append : (id : ℕ) (xs ys : List Step) (beat : RegionBeat) → left_by id (xs ++ ys) beat ≡ left_by id ys (left_by id xs beat)
carried-append id [] ys beat = refl
carried-append id (x ∷ xs) ys beat = carried-append id xs ys (after (step_with id x) beat)

-- the new peer stays
keeps : (id to : ℕ) (role : Role) (p : Peer) (beat mid : RegionBeat) → p.id ≢ id → p.id ≢ 0 → Ready id to role p beat mid → HasNew id to role (left_by id (steps.RemovePeer p.id p.store ∷ []) mid)
keeps id to role p beat mid differs some ready =
    rw (kept_id id p.id some, ready.peers, filter-append (stays p) beat.region.peers (record { id = id; store = to; role = role } ∷ []), another p.id p.store (record { id = id; store = to; role = role }) (λ same. differs (sym same)))
    (Contains-push (filter (stays p) beat.region.peers) _)

-- only the moved peer is on its store, with the new one on another
alone : (from to id : ℕ) (role : Role) (p : Peer) (beat mid : RegionBeat) → from ≢ to → All (λ (q : Peer). q.store ≡ from → q ≡ p) beat.region.peers → Ready id to role p beat mid → All (λ (q : Peer). q.store ≡ from → q ≡ p) mid.region.peers
alone from to id role p beat mid differs single ready =
    subst (All (λ (q : Peer). q.store ≡ from → q ≡ p)) (sym ready.peers)
    (All-push (λ (q : Peer). q.store ≡ from → q ≡ p) beat.region.peers _ single (λ same. absurd (differs (sym same))))

-- the steps of a move, in a row
abbrev moving : Bool → Bool → Option Peer → Peer → ℕ → List Step
moving b c o p to = (steps.AddLearner 0 to ∷ promotion b to) ++ (lead_if c o to ++ (steps.RemovePeer p.id p.store ∷ []))

moves_by : (from to id now : ℕ) (beat : RegionBeat) (stores : List StoreEntry) (p : Peer) (b c : Bool) → MayTake id beat → has_store to beat ≡ false → peer_on from beat ≡ Some p → is_voter p ≡ b → (p.id == beat.leader) ≡ c → HasMoved from to id beat (left_by id (moving b c (next_leader beat stores now) p to) beat)
moves_by from to id now beat stores p b c may free on vote lead =
    let one : RegionBeat = left_by id (steps.AddLearner 0 to ∷ promotion b to) beat in
    let two : RegionBeat = left_by id (lead_if c (next_leader beat stores now) to) one in
    let at = held from p beat.region.peers on in
    let first = only from p beat.region.peers may.stores on in
    let ready = readies c id to now (role_for b) p beat one stores lead may at.0 (joins b id to beat may free) in
    let some = All-contains (λ (q : Peer). q.id ≢ 0) beat.region.peers p may.given at.0 in
    let new = All-contains (λ (q : Peer). q.id ≢ id) beat.region.peers p may.new at.0 in
    let there : has_store p.store beat ≡ true = list_any_at (λ (q : Peer). q.store == p.store) beat.region.peers at.0.0 p at.0.1 (ap (λ (q : Peer). q.store == p.store) at.0.2 ∙ same_number p.store) in
    let differs : from ≢ to = λ same. true≢false (sym there ∙ ap (λ s. has_store s beat) (at.1 ∙ same) ∙ free) in
    let kept = keeps id to (role_for b) p beat two new some ready in
    let end : left_by id (moving b c (next_leader beat stores now) p to) beat ≡ left_by id (steps.RemovePeer p.id p.store ∷ []) two =
    carried-append id (steps.AddLearner 0 to ∷ promotion b to) (lead_if c (next_leader beat stores now) to ++ steps.RemovePeer p.id p.store ∷ []) beat ∙ carried-append id (lead_if c (next_leader beat stores now) to) (steps.RemovePeer p.id p.store ∷ []) one in
    subst (HasMoved from to id beat) (sym end) (record {
      left = left_after from id p beat two may on (alone from to id (role_for b) p beat two differs first ready) (λ q held. subst (λ ps. Contains ps q) (sym ready.peers) (Contains-append_left beat.region.peers _ q held)) ready.leader;
      voter = λ k d low here role. as_voter (left_by id (steps.RemovePeer p.id p.store ∷ []) two) b vote kept (sym (ap (λ (q : Peer). q.role) (first k d low here)) ∙ role);
      learner = λ k d low here role. as_learner (left_by id (steps.RemovePeer p.id p.store ∷ []) two) b vote kept (sym (ap (λ (q : Peer). q.role) (first k d low here)) ∙ role);
    })
  where
    as_voter : (later : RegionBeat) (b : Bool) → is_voter p ≡ b → HasNew id to (role_for b) later → p.role ≡ Voter → HasNew id to Voter later
    as_voter later true vote kept role = kept
    as_voter later false vote kept role = absurd (cc)

    as_learner : (later : RegionBeat) (b : Bool) → is_voter p ≡ b → HasNew id to (role_for b) later → p.role ≡ Learner → HasNew id to Learner later
    as_learner later true vote kept role = absurd (cc)
    as_learner later false vote kept role = kept

shape : (b c : Bool) (o : Option Peer) (p : Peer) (to : ℕ) → ((steps.AddLearner 0 to ∷ []) ++ cond b (steps.PromoteLearner 0 to ∷ []) [] ++ cond c (next_part o to) []) ++ steps.RemovePeer p.id p.store ∷ [] ≡ moving b c o p to
shape true true o p to = refl
shape true false o p to = refl
shape false true o p to = refl
shape false false o p to = refl

moves_from : (from to id now : ℕ) (beat : RegionBeat) (stores : List StoreEntry) (list : List Step) (o : Option Peer) → MayTake id beat → has_store to beat ≡ false → peer_on from beat ≡ o → move_by o to beat stores now ≡ Ok list → HasMoved from to id beat (left_by id list beat)
moves_from from to id now beat stores list None may free on h = absurd (cc)
moves_from from to id now beat stores list (Some p) may free on h =
    subst (λ l. HasMoved from to id beat (left_by id l beat))
    (sym (shape (is_voter p) (p.id == beat.leader) (next_leader beat stores now) p to) ∙ one_list _ _ list refl h)
    (moves_by from to id now beat stores p (is_voter p) (p.id == beat.leader) may free on refl refl)

-- MovePeer: no peer is on the one store, and a new one is on the other
pub moves : (from to id now : ℕ) (beat : RegionBeat) (stores : List StoreEntry) (list : List Step) → MayTake id beat → plan_of (wish.MovePeer from to) beat stores now ≡ Ok list → HasMoved from to id beat (left_by id list beat)
moves from to id now beat stores list may h =
    let a = guard (is_unknown from stores) faults.UnknownStore _ list h in
    let b = guard (is_unknown to stores) faults.UnknownStore _ list a.1 in
    let c = guard (not (is_usable to now stores)) faults.NotUsable _ list b.1 in
    let d = guard (has_store to beat) faults.HasPeer _ list c.1 in
    moves_from from to id now beat stores list (peer_on from beat) may d.0 refl d.1

-- and the new peer is there before the moved one goes
append_assoc_of : (ys zs xs : List Step) → xs ++ (ys ++ zs) ≡ (xs ++ ys) ++ zs
append_assoc_of ys zs [] = refl
append_assoc_of ys zs (x ∷ xs) = ap (λ l. x ∷ l) (append_assoc_of ys zs xs)

shape_last : (b c : Bool) (o : Option Peer) (p : Peer) (to : ℕ) → moving b c o p to ≡ ((steps.AddLearner 0 to ∷ promotion b to) ++ lead_if c o to) ++ (steps.RemovePeer p.id p.store ∷ [])
shape_last true true o p to = append_assoc_of (next_part o to) (steps.RemovePeer p.id p.store ∷ []) (steps.AddLearner 0 to ∷ steps.PromoteLearner 0 to ∷ [])
shape_last true false o p to = refl
shape_last false true o p to = append_assoc_of (next_part o to) (steps.RemovePeer p.id p.store ∷ []) (steps.AddLearner 0 to ∷ [])
shape_last false false o p to = refl

first_by : (from to id now : ℕ) (beat : RegionBeat) (stores : List StoreEntry) (p : Peer) (b c : Bool) → MayTake id beat → has_store to beat ≡ false → peer_on from beat ≡ Some p → is_voter p ≡ b → (p.id == beat.leader) ≡ c → IsThereFirst from to id beat (moving b c (next_leader beat stores now) p to)
first_by from to id now beat stores p b c may free on vote lead =
    let one : RegionBeat = left_by id (steps.AddLearner 0 to ∷ promotion b to) beat in
    let two : RegionBeat = left_by id (lead_if c (next_leader beat stores now) to) one in
    let before : List Step = (steps.AddLearner 0 to ∷ promotion b to) ++ lead_if c (next_leader beat stores now) to in
    let at = held from p beat.region.peers on in
    let first = only from p beat.region.peers may.stores on in
    let ready = readies c id to now (role_for b) p beat one stores lead may at.0 (joins b id to beat may free) in
    let there : left_by id before beat ≡ two = carried-append id (steps.AddLearner 0 to ∷ promotion b to) (lead_if c (next_leader beat stores now) to) beat in
    let peers : (left_by id before beat).region.peers ≡ beat.region.peers ++ record { id = id; store = to; role = role_for b } ∷ [] = ap (λ (r : RegionBeat). r.region.peers) there ∙ ready.peers in
    let new : HasNew id to (role_for b) (left_by id before beat) = subst (λ ps. Contains ps (record { id = id; store = to; role = role_for b })) (sym peers) (Contains-push beat.region.peers (record { id = id; store = to; role = role_for b })) in
    record {
      before = before;
      gone = p.id;
      last = shape_last b c (next_leader beat stores now) p to ∙ ap (λ s. before ++ (steps.RemovePeer p.id s ∷ [])) at.1;
      voter = λ k d low here role. in_voters b vote new (sym (ap (λ (q : Peer). q.role) (first k d low here)) ∙ role);
      learner = λ k d low here role. in_learners b vote new (sym (ap (λ (q : Peer). q.role) (first k d low here)) ∙ role);
      kept = λ k d low. subst (λ ps. Contains ps (get_or beat.region.peers k d)) (sym peers) (Contains-append_left beat.region.peers (record { id = id; store = to; role = role_for b } ∷ []) (get_or beat.region.peers k d) (Contains-get_or beat.region.peers k d low));
    }
  where
    in_voters : (b : Bool) → is_voter p ≡ b → HasNew id to (role_for b) (left_by id ((steps.AddLearner 0 to ∷ promotion b to) ++ lead_if c (next_leader beat stores now) to) beat) → p.role ≡ Voter → HasNew id to Voter (left_by id ((steps.AddLearner 0 to ∷ promotion b to) ++ lead_if c (next_leader beat stores now) to) beat)
    in_voters true vote new role = new
    in_voters false vote new role = absurd (cc)

    in_learners : (b : Bool) → is_voter p ≡ b → HasNew id to (role_for b) (left_by id ((steps.AddLearner 0 to ∷ promotion b to) ++ lead_if c (next_leader beat stores now) to) beat) → p.role ≡ Learner → HasNew id to Learner (left_by id ((steps.AddLearner 0 to ∷ promotion b to) ++ lead_if c (next_leader beat stores now) to) beat)
    in_learners true vote new role = absurd (cc)
    in_learners false vote new role = new

first_from : (from to id now : ℕ) (beat : RegionBeat) (stores : List StoreEntry) (list : List Step) (o : Option Peer) → MayTake id beat → has_store to beat ≡ false → peer_on from beat ≡ o → move_by o to beat stores now ≡ Ok list → IsThereFirst from to id beat list
first_from from to id now beat stores list None may free on h = absurd (cc)
first_from from to id now beat stores list (Some p) may free on h =
    subst (IsThereFirst from to id beat)
    (sym (shape (is_voter p) (p.id == beat.leader) (next_leader beat stores now) p to) ∙ one_list _ _ list refl h)
    (first_by from to id now beat stores p (is_voter p) (p.id == beat.leader) may free on refl refl)

pub comes_first : (from to id now : ℕ) (beat : RegionBeat) (stores : List StoreEntry) (list : List Step) → MayTake id beat → plan_of (wish.MovePeer from to) beat stores now ≡ Ok list → IsThereFirst from to id beat list
comes_first from to id now beat stores list may h =
    let a = guard (is_unknown from stores) faults.UnknownStore _ list h in
    let b = guard (is_unknown to stores) faults.UnknownStore _ list a.1 in
    let c = guard (not (is_usable to now stores)) faults.NotUsable _ list b.1 in
    let d = guard (has_store to beat) faults.HasPeer _ list c.1 in
    first_from from to id now beat stores list (peer_on from beat) may d.0 refl d.1
