-- What the steps of a candidate leave.
use Rattle.std.proofs.Common.{◌≡◌, ◌≢◌, ◌<◌, ℕ, zero, suc, Bool, true, false, not, ◌&&◌, ◌==◌, List, [], ◌∷◌, ◌++◌, map, filter, length, get_or, Option, Some, None, Any, Contains, IsTrue, arith, refl, sym, ◌∙◌, subst, ap, true≢false, if◌then◌else◌}
use Rattle.std.specs.List.{list_any}
use Rattle.std.proofs.lemmas.List.Elements.{Contains-push, filter_passes}
use Rattle.std.proofs.lemmas.List.Folds.{list_any_at, list_any_none}
use Rattle.pd_types.specs.declared.region.Role.TheVariants as roles
use Rattle.pd_types.specs.declared.region.Peer.{Peer}
use Rattle.pd_types.specs.declared.region.RegionBeat.{RegionBeat}
use Rattle.pd_types.specs.declared.step.Step.TheVariants as steps
use Rattle.store_table.specs.declared.entry.StoreEntry.{StoreEntry}
use Rattle.op_step.specs.After.{after, promoted}
use Rattle.op_step.specs.Carried.{HasNew, MayTake, left_by}
use Rattle.op_step.specs.NextLeader.{IsNext}
use Rattle.op_step.specs.Peers.{has_peer, has_store, is_peer, is_target}
use Rattle.op_step.specs.Votes.{is_voter}
use Rattle.op_step.specs.Wishes.{may_lead, next_leader}
use Rattle.op_step.proofs.NextLemmas.{next-is-least}
use Rattle.op_step.proofs.CarriedLemmas.{both, denied, new_learner, same_number, unequal}
use Rattle.rule_checker.specs.declared.class.Class.TheVariants.{Promote, Transfer, AddVoter, AddLearner, Remove}
use Rattle.rule_checker.specs.Candidates.{after_all, lead_part, new_on, pool, steps_of}
use Rattle.rule_checker.proofs.RepairLemmas.{voter_comes}

-- what a list holds is held, changed, by the changed list
map_held : {A B : Type 0} (f : A → B) (xs : List A) (k : ℕ) (x : A) → k < length xs → get_or xs k x ≡ x → Contains (map f xs) (f x)
map_held f [] k x low at = absurd (omega arith)
map_held f (y ∷ xs) zero x low at = (0, omega arith, ap f at)
map_held f (y ∷ xs) (suc k) x low at =
    let rest = map_held f xs k x (omega arith) at in let within = rest.1 in (suc rest.0, omega arith, rest.2)

pub every_store : (beat : RegionBeat) (stores : List StoreEntry) (entry : StoreEntry) → Contains stores entry → Contains (pool AddVoter beat stores) (new_on entry.store.id)
every_store beat stores entry held = map_held (λ (one : StoreEntry). new_on one.store.id) stores held.0 entry held.1 held.2

-- a promoted peer is a voter
is_promoted : (peer : Peer) → promoted peer.id peer.store peer ≡ record { id = peer.id; store = peer.store; role = roles.Voter }
is_promoted peer = rw (same_number peer.id, same_number peer.store) refl

pub promotes : (beat : RegionBeat) (stores : List StoreEntry) (now : ℕ) (peer : Peer) → Contains beat.region.peers peer → Contains (after_all (steps_of Promote beat stores now peer) beat).region.peers (record { id = peer.id; store = peer.store; role = roles.Voter })
promotes beat stores now peer held =
    subst (λ (one : Peer). Contains (map (promoted peer.id peer.store) beat.region.peers) one) (is_promoted peer) (map_held (promoted peer.id peer.store) beat.region.peers held.0 peer held.1 held.2)

-- the region has a peer that it has
itself : (peer : Peer) → is_peer peer.id peer.store peer ≡ true
itself peer = rw (same_number peer.id, same_number peer.store) refl

there : (peer : Peer) (beat : RegionBeat) → Contains beat.region.peers peer → has_peer peer.id peer.store beat ≡ true
there peer beat held = list_any_at (is_peer peer.id peer.store) beat.region.peers held.0 peer held.1 (ap (is_peer peer.id peer.store) held.2 ∙ itself peer)

pub transfers : (beat : RegionBeat) (stores : List StoreEntry) (now : ℕ) (peer : Peer) → Contains beat.region.peers peer → (after_all (steps_of Transfer beat stores now peer) beat).leader ≡ peer.id
transfers beat stores now peer held = rw (there peer beat held) refl

-- a new peer stands on its store
pub voter : (beat : RegionBeat) (stores : List StoreEntry) (now id : ℕ) (peer : Peer) → MayTake id beat → peer.id ≡ 0 → has_store peer.store beat ≡ false → HasNew id peer.store roles.Voter (left_by id (steps_of AddVoter beat stores now peer) beat)
voter beat stores now id peer may new free =
    subst (λ (n : ℕ). HasNew id peer.store roles.Voter (left_by id (steps.AddLearner n peer.store ∷ (steps.PromoteLearner n peer.store ∷ [])) beat)) (sym new)
    (subst (λ ps. Contains ps (record { id = id; store = peer.store; role = roles.Voter })) (sym (voter_comes id peer.store beat may.new free)) (Contains-push beat.region.peers _))

pub learner : (beat : RegionBeat) (stores : List StoreEntry) (now id : ℕ) (peer : Peer) → MayTake id beat → peer.id ≡ 0 → has_store peer.store beat ≡ false → HasNew id peer.store roles.Learner (left_by id (steps_of AddLearner beat stores now peer) beat)
learner beat stores now id peer may new free =
    subst (λ (n : ℕ). HasNew id peer.store roles.Learner (left_by id (steps.AddLearner n peer.store ∷ []) beat)) (sym new)
    (subst (λ ps. Contains ps (record { id = id; store = peer.store; role = roles.Learner })) (sym (new_learner id peer.store beat.region.peers may.new free)) (Contains-push beat.region.peers _))

-- the peer that goes is gone
gone : (id store : ℕ) (peers : List Peer) → list_any (is_peer id store) (filter (λ one. not (is_peer id store one)) peers) ≡ false
gone id store peers =
    list_any_none (is_peer id store) _ (λ k d low. denied _ (filter_passes (λ one. not (is_peer id store one)) peers k d low))

goes_by : (lead : Bool) (next : Option Peer) (id store : ℕ) (beat : RegionBeat) → has_peer id store (after_all ((if lead then lead_part next else []) ++ steps.RemovePeer id store ∷ []) beat) ≡ false
goes_by false next id store beat = gone id store beat.region.peers
goes_by true None id store beat = gone id store beat.region.peers
goes_by true (Some next) id store beat = gone id store beat.region.peers

pub goes : (beat : RegionBeat) (stores : List StoreEntry) (now : ℕ) (peer : Peer) → has_peer peer.id peer.store (after_all (steps_of Remove beat stores now peer) beat) ≡ false
goes beat stores now peer = goes_by (peer.id == beat.leader) (next_leader beat stores now) peer.id peer.store beat

-- a leader that goes doesn't lead any more
led_by : (lead : Bool) (next : Option Peer) (id store : ℕ) (beat : RegionBeat) (stores : List StoreEntry) (now : ℕ) → lead ≡ true → IsNext beat stores now next → Any (λ (one : Peer). IsTrue (may_lead beat stores now one)) beat.region.peers → (after_all ((if lead then lead_part next else []) ++ steps.RemovePeer id store ∷ []) beat).leader ≢ beat.leader
led_by false next id store beat stores now is fact any = absurd (true≢false (sym is))
led_by true None id store beat stores now is nobody any =
    absurd (true≢false (sym any.4 ∙ ap (may_lead beat stores now) (sym any.3) ∙ nobody any.0 any.1 any.2))
led_by true (Some next) id store beat stores now is fact any =
    let able = both (is_voter next && not (next.id == beat.leader)) (is_target beat stores now next) fact.able in
    let other = both (is_voter next) (not (next.id == beat.leader)) able.0 in
    let leads : (after (steps.TransferLeader next.id next.store) beat).leader ≡ next.id = rw (there next beat fact.held) refl in
    λ same. unequal next.id beat.leader (denied (next.id == beat.leader) other.1) (sym leads ∙ same)

pub leader : (beat : RegionBeat) (stores : List StoreEntry) (now : ℕ) (peer : Peer) → Any (λ (one : Peer). IsTrue (may_lead beat stores now one)) beat.region.peers → peer.id ≡ beat.leader → (after_all (steps_of Remove beat stores now peer) beat).leader ≢ peer.id
leader beat stores now peer any leads =
    λ same. led_by (peer.id == beat.leader) (next_leader beat stores now) peer.id peer.store beat stores now (ap (λ (n : ℕ). n == beat.leader) leads ∙ same_number beat.leader) (next-is-least beat stores now) any (same ∙ leads)
