-- Plans that are carried out leave the numbers that they tell, so there are no more of them than the first number says.
use Rattle.std.proofs.Common.{◌≡◌, ◌≢◌, ◌≤◌, ◌<◌, ℕ, zero, suc, Bool, true, false, ◌&&◌, ◌==◌, nat_eq, List, [], ◌∷◌, ◌++◌, map, length, Option, Some, None, All, arith, refl, sym, ◌∙◌, subst, ap, if◌then◌else◌}
use Rattle.std.specs.List.{slice_get}
use Rattle.std.proofs.lemmas.Bool.Decides.{nat_tests}
use Rattle.std.proofs.lemmas.List.Elements.{All-contains}
use mathlib.Core.Path.{fun_ext}
use Rattle.pd_types.specs.declared.region.Role.{Role}
use Rattle.pd_types.specs.declared.region.Role.TheVariants as roles
use Rattle.pd_types.specs.declared.region.Peer.{Peer}
use Rattle.pd_types.specs.declared.region.RegionBeat.{RegionBeat}
use Rattle.pd_types.specs.declared.rule.Rule.{Rule}
use Rattle.pd_types.specs.declared.step.Step.{Step}
use Rattle.pd_types.specs.declared.step.Step.TheVariants as steps
use Rattle.store_table.specs.declared.entry.StoreEntry.{StoreEntry}
use Rattle.op_step.specs.After.{after, peers_after, promoted}
use Rattle.op_step.specs.Carried.{MayTake, left_by}
use Rattle.op_step.specs.NextLeader.{IsNext}
use Rattle.op_step.specs.Peers.{has_store}
use Rattle.op_step.specs.Wishes.{given, step_with, next_leader}
use Rattle.op_step.proofs.NextLemmas.{next-is-least}
use Rattle.op_step.proofs.CarriedLemmas.{kept_id, new_learner, new_voter}
use Rattle.rule_fit.specs.Suits.{both_suit, counts_of, role_suits, store_suits, suits_in}
use Rattle.rule_fit.specs.Certificate.{IsMisfitNumber}
use Rattle.rule_fit.proofs.LawLemmas.{one_number}
use Rattle.rule_fit.proofs.Regions.{carry}
use Rattle.rule_set.specs.InForce.{rules_at}
use Rattle.pd_types.specs.WellFormed.{IsWellFormed}
use Rattle.rule_checker.specs.declared.class.Class.{Class}
use Rattle.rule_checker.specs.declared.class.Class.TheVariants.{Promote, Transfer, AddVoter, AddLearner, Remove}
use Rattle.rule_checker.specs.Candidates.{IsCandidate, after_all, lead_part, may_come, steps_of}
use Rattle.rule_checker.specs.Measure.{HasNumber}
use Rattle.rule_checker.specs.Repairs.{AreRepairs, IsRepaired}
use Rattle.rule_checker.proofs.PoolLemmas.{pool_new}

-- suits of two last peers that suit the same rules
last_alike : (leader : ℕ) (stores : List StoreEntry) (now : ℕ) (rules : List Rule) (one other : Peer) → ((r : ℕ) → both_suit leader stores now (Some one) (slice_get rules r) ≡ both_suit leader stores now (Some other) (slice_get rules r)) → (peers : List Peer) (p r : ℕ) → both_suit leader stores now (slice_get (peers ++ one ∷ []) p) (slice_get rules r) ≡ both_suit leader stores now (slice_get (peers ++ other ∷ []) p) (slice_get rules r)
last_alike leader stores now rules one other same [] zero r = same r
last_alike leader stores now rules one other same [] (suc p) r = refl
last_alike leader stores now rules one other same (peer ∷ peers) zero r = refl
last_alike leader stores now rules one other same (peer ∷ peers) (suc p) r = last_alike leader stores now rules one other same peers p r

long_alike : (peers : List Peer) (one other : Peer) → length (peers ++ one ∷ []) ≡ length (peers ++ other ∷ [])
long_alike [] one other = refl
long_alike (peer ∷ peers) one other =
    let rest : length (peers ++ one ∷ []) ≡ length (peers ++ other ∷ []) = long_alike peers one other in omega arith

-- a new peer with an id
abbrev numbered : ℕ → ℕ → Role → Peer
numbered id store role = record { id = id; store = store; role = role }

-- neither id is the leader's
neither_leads : (leader id : ℕ) → leader ≢ 0 → leader ≢ id → nat_eq 0 leader ≡ nat_eq id leader
neither_leads leader id some other = grind (arith, nat_tests)

-- which id a new peer has doesn't matter for what it suits
new_alike : (leader id store : ℕ) (role : Role) (stores : List StoreEntry) (now : ℕ) (rules : List Rule) → leader ≢ 0 → leader ≢ id → (r : ℕ) → both_suit leader stores now (Some (numbered 0 store role)) (slice_get rules r) ≡ both_suit leader stores now (Some (numbered id store role)) (slice_get rules r)
new_alike leader id store role stores now [] some other r = refl
new_alike leader id store role stores now (rule ∷ rules) some other zero =
    ap (λ (leads : Bool). store_suits stores now store rule && role_suits rule.role role leads) (neither_leads leader id some other)
new_alike leader id store role stores now (rule ∷ rules) some other (suc r) = new_alike leader id store role stores now rules some other r

-- the number of a region with such a leader and such peers
abbrev NumberOf : ℕ → List Peer → List Rule → List StoreEntry → ℕ → ℕ → Type 0
NumberOf leader peers rules stores now number =
    IsMisfitNumber (λ p r. both_suit leader stores now (slice_get peers p) (slice_get rules r)) (length peers) (counts_of rules) number

renumbered : (leader id store : ℕ) (role : Role) (stores : List StoreEntry) (now : ℕ) (rules : List Rule) (peers : List Peer) (number : ℕ) → leader ≢ 0 → leader ≢ id → NumberOf leader (peers ++ numbered 0 store role ∷ []) rules stores now number → NumberOf leader (peers ++ numbered id store role ∷ []) rules stores now number
renumbered leader id store role stores now rules peers number some other fact =
    carry (λ s m xs. IsMisfitNumber s m xs number) _ _ _ _ _ _
    (fun_ext (λ p. fun_ext (λ r. last_alike leader stores now rules (numbered 0 store role) (numbered id store role) (new_alike leader id store role stores now rules some other) peers p r)))
    (long_alike peers (numbered 0 store role) (numbered id store role))
    refl
    fact

-- the leader is a peer, so it has neither the id 0 nor the new one
leader_has : (P : ℕ → Type 0) (beat : RegionBeat) → IsWellFormed beat → All (λ (peer : Peer). P peer.id) beat.region.peers → P beat.leader
leader_has P beat formed all =
    subst P formed.leader.4.id (subst (λ (one : Peer). P one.id) formed.leader.3 (all formed.leader.0 formed.leader.1 formed.leader.2))

-- where a new peer's two steps and its first one lead, with an id that the region hasn't
pub voter_comes : (id store : ℕ) (beat : RegionBeat) → All (λ (peer : Peer). peer.id ≢ id) beat.region.peers → has_store store beat ≡ false → map (promoted id store) (peers_after (steps.AddLearner id store) beat.region.peers) ≡ beat.region.peers ++ numbered id store roles.Voter ∷ []
voter_comes id store beat new free =
    ap (map (promoted id store)) (new_learner id store beat.region.peers new free) ∙ new_voter id store beat.region.peers new

-- a plan's steps leave the same number, whatever id the new peer has
abbrev HasSame : List Step → ℕ → RegionBeat → List Rule → List StoreEntry → ℕ → ℕ → Type 0
HasSame list id beat rules stores now number = HasNumber (after_all list beat) rules stores now number → HasNumber (left_by id list beat) rules stores now number

promotes : (id peer store : ℕ) (beat : RegionBeat) (rules : List Rule) (stores : List StoreEntry) (now number : ℕ) → peer ≢ 0 → HasSame (steps.PromoteLearner peer store ∷ []) id beat rules stores now number
promotes id peer store beat rules stores now number some fact =
    subst (λ (p : ℕ). HasNumber (after (steps.PromoteLearner p store) beat) rules stores now number) (sym (kept_id id peer some)) fact

transfers : (id peer store : ℕ) (beat : RegionBeat) (rules : List Rule) (stores : List StoreEntry) (now number : ℕ) → peer ≢ 0 → HasSame (steps.TransferLeader peer store ∷ []) id beat rules stores now number
transfers id peer store beat rules stores now number some fact =
    subst (λ (p : ℕ). HasNumber (after (steps.TransferLeader p store) beat) rules stores now number) (sym (kept_id id peer some)) fact

removes : (lead : Bool) (next : Option Peer) (id peer store : ℕ) (beat : RegionBeat) (rules : List Rule) (stores : List StoreEntry) (now number : ℕ) → All (λ (one : Peer). one.id ≢ 0) beat.region.peers → IsNext beat stores now next → peer ≢ 0 → HasSame ((if lead then lead_part next else []) ++ steps.RemovePeer peer store ∷ []) id beat rules stores now number
removes false next id peer store beat rules stores now number ids is some fact =
    subst (λ (p : ℕ). HasNumber (after (steps.RemovePeer p store) beat) rules stores now number) (sym (kept_id id peer some)) fact
removes true None id peer store beat rules stores now number ids is some fact =
    subst (λ (p : ℕ). HasNumber (after (steps.RemovePeer p store) beat) rules stores now number) (sym (kept_id id peer some)) fact
removes true (Some next) id peer store beat rules stores now number ids is some fact =
    subst (λ (p : ℕ). HasNumber (after (steps.RemovePeer p store) (after (steps.TransferLeader (given id next.id) next.store) beat)) rules stores now number) (sym (kept_id id peer some))
    (subst (λ (n : ℕ). HasNumber (after (steps.RemovePeer peer store) (after (steps.TransferLeader n next.store) beat)) rules stores now number)
    (sym (kept_id id next.id (All-contains (λ (one : Peer). one.id ≢ 0) beat.region.peers next ids is.held))) fact)

adds_voter : (id store : ℕ) (beat : RegionBeat) (rules : List Rule) (stores : List StoreEntry) (now number : ℕ) → IsWellFormed beat → MayTake id beat → has_store store beat ≡ false → HasSame (steps.AddLearner 0 store ∷ (steps.PromoteLearner 0 store ∷ [])) id beat rules stores now number
adds_voter id store beat rules stores now number formed may free fact =
    subst (λ (ps : List Peer). NumberOf beat.leader ps rules stores now number) (sym (voter_comes id store beat may.new free))
    (renumbered beat.leader id store roles.Voter stores now rules beat.region.peers number
    (leader_has (λ (n : ℕ). n ≢ 0) beat formed may.given) (leader_has (λ (n : ℕ). n ≢ id) beat formed may.new)
    (subst (λ (ps : List Peer). NumberOf beat.leader ps rules stores now number) (voter_comes 0 store beat may.given free) fact))

adds_learner : (id store : ℕ) (beat : RegionBeat) (rules : List Rule) (stores : List StoreEntry) (now number : ℕ) → IsWellFormed beat → MayTake id beat → has_store store beat ≡ false → HasSame (steps.AddLearner 0 store ∷ []) id beat rules stores now number
adds_learner id store beat rules stores now number formed may free fact =
    subst (λ (ps : List Peer). NumberOf beat.leader ps rules stores now number) (sym (new_learner id store beat.region.peers may.new free))
    (renumbered beat.leader id store roles.Learner stores now rules beat.region.peers number
    (leader_has (λ (n : ℕ). n ≢ 0) beat formed may.given) (leader_has (λ (n : ℕ). n ≢ id) beat formed may.new)
    (subst (λ (ps : List Peer). NumberOf beat.leader ps rules stores now number) (new_learner 0 store beat.region.peers may.given free) fact))

no_store : (beat : RegionBeat) (stores : List StoreEntry) (now store : ℕ) → may_come beat stores now store ≡ true → has_store store beat ≡ false
no_store beat stores now store h = grind (arith, nat_tests)

-- a candidate's steps leave the number that they left without an id
same_left : (class : Class) (id : ℕ) (beat : RegionBeat) (rules : List Rule) (stores : List StoreEntry) (now number : ℕ) (peer : Peer) → IsWellFormed beat → MayTake id beat → IsCandidate class beat rules stores now peer → HasSame (steps_of class beat stores now peer) id beat rules stores now number
same_left Promote id beat rules stores now number peer formed may is =
    promotes id peer.id peer.store beat rules stores now number (All-contains (λ (one : Peer). one.id ≢ 0) beat.region.peers peer may.given is.held)
same_left Transfer id beat rules stores now number peer formed may is =
    transfers id peer.id peer.store beat rules stores now number (All-contains (λ (one : Peer). one.id ≢ 0) beat.region.peers peer may.given is.held)
same_left AddVoter id beat rules stores now number peer formed may is =
    subst (λ (p : Peer). HasSame (steps_of AddVoter beat stores now p) id beat rules stores now number) (pool_new AddVoter beat stores peer tt is.held)
    (adds_voter id peer.store beat rules stores now number formed may (no_store beat stores now peer.store is.passes))
same_left AddLearner id beat rules stores now number peer formed may is =
    subst (λ (p : Peer). HasSame (steps_of AddLearner beat stores now p) id beat rules stores now number) (pool_new AddLearner beat stores peer tt is.held)
    (adds_learner id peer.store beat rules stores now number formed may (no_store beat stores now peer.store is.passes))
same_left Remove id beat rules stores now number peer formed may is =
    removes (peer.id == beat.leader) (next_leader beat stores now) id peer.id peer.store beat rules stores now number may.given (next-is-least beat stores now)
    (All-contains (λ (one : Peer). one.id ≢ 0) beat.region.peers peer may.given is.held)

-- the steps leave the range
same_start : (list : List Step) (id : ℕ) (beat : RegionBeat) → (left_by id list beat).region.start ≡ beat.region.start
same_start [] id beat = refl
same_start (step ∷ list) id beat = same_start list id (after (step_with id step) beat)

-- what a plan that is carried out leaves
pub repaired_number : (set : List Rule) (stores : List StoreEntry) (now : ℕ) (beat later : RegionBeat) (from : ℕ) → HasNumber beat (rules_at beat.region.start set) stores now from → IsRepaired set stores now beat later → (to : ℕ) × (to < from) × HasNumber later (rules_at later.region.start set) stores now to
repaired_number set stores now beat later from number is =
    let plan = is.plan.1.1 in
    let best = plan.best in
    let rules = rules_at beat.region.start set in
    let low = plan.first.lowers.lower in
    let same : is.from ≡ from = one_number (suits_in beat rules stores now) (length beat.region.peers) (counts_of rules) is.from from plan.number number in
    let left = same_left is.class is.id beat rules stores now best.to best.peer is.formed is.free plan.first.lowers.candidate plan.first.lowers.leaves in
    let there = subst (λ (list : List Step). HasNumber (left_by is.id list beat) rules stores now best.to) (sym plan.carried) left in
    let start : later.region.start ≡ beat.region.start = ap (λ (b : RegionBeat). b.region.start) is.left ∙ same_start is.steps is.id beat in (
      best.to,
      omega arith,
      subst (λ (key : List ℕ). HasNumber later (rules_at key set) stores now best.to) (sym start)
          (subst (λ (b : RegionBeat). HasNumber b rules stores now best.to) (sym is.left) there),
    )

-- there are no more plans than the first number says
pub few_repairs : (set : List Rule) (stores : List StoreEntry) (now : ℕ) (beat : RegionBeat) (later : List RegionBeat) (from : ℕ) → HasNumber beat (rules_at beat.region.start set) stores now from → AreRepairs set stores now beat later → length later ≤ from
few_repairs set stores now beat [] from number are = omega arith
few_repairs set stores now beat (next ∷ rest) from number are =
    let left = repaired_number set stores now beat next from number are.0 in
    let low = left.1 in
    let fewer = few_repairs set stores now next rest left.0 left.2 are.1 in omega arith
