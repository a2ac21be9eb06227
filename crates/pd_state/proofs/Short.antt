-- The steps of a plan are few.
use Rattle.std.proofs.Common.{ℕ, ◌<◌, ◌^◌, Bool, true, false, cond, not, List, [], ◌∷◌, ◌++◌, length, sym, subst, Option, Some, None, Ok, Err, ◌≡◌, arith}
use Rattle.std.specs.Bool.{⊤}
use Rattle.std.specs.Prelude.{◌==◌}
use Rattle.std.proofs.lemmas.List.Elements.{All-cons, All-nil}
use Rattle.std.specs.List.{All, cons_option, filter_map}
use Rattle.pd_types.specs.declared.region.Peer.{Peer}
use Rattle.pd_types.specs.declared.region.RegionBeat.{RegionBeat}
use Rattle.pd_types.specs.declared.rule.Rule.{Rule}
use Rattle.pd_types.specs.declared.step.Step.{Step}
use Rattle.pd_types.specs.declared.step.Step.TheVariants as steps
use Rattle.store_table.specs.declared.entry.StoreEntry.{StoreEntry}
use Rattle.store_table.specs.Entries.{is_usable}
use Rattle.op_step.specs.Peers.{has_store, peer_on}
use Rattle.op_step.specs.Votes.{is_voter}
use Rattle.op_step.specs.Wishes.{Plan, add_plan, is_unknown, lead_by, move_by, next_leader, next_part, plan_of, remove_by, remove_leader}
use Rattle.op_step.specs.declared.wishes.BuildFault.TheVariants as faults
use Rattle.op_step.specs.declared.wishes.Wish.{Wish}
use Rattle.op_step.specs.declared.wishes.Wish.TheVariants as wishes
use Rattle.rule_set.specs.InForce.{rules_at}
use Rattle.rule_checker.specs.declared.class.Class.{Class}
use Rattle.rule_checker.specs.declared.class.Class.TheVariants as classes
use Rattle.rule_checker.specs.declared.class.Ranked.{Ranked}
use Rattle.rule_checker.specs.declared.verdict.Verdict.{Verdict}
use Rattle.rule_checker.specs.declared.verdict.Verdict.TheVariants as verdict
use Rattle.rule_checker.specs.Candidates.{lead_part, steps_of}
use Rattle.rule_checker.specs.Plan.{IsVerdict}
use Rattle.rule_checker.specs.Told.{Told, Fits, Plans, Splits, Stuck, all_classes, first_of, least_border, number_of, plan_among, plan_or, told_by, told_of}
use Rattle.pd_state.specs.Adding.{Around}
use Rattle.pd_state.specs.Checking.{IsShort, plan_told, told_in}
use Rattle.pd_state.specs.declared.patrol.Planned.{Planned}

few_lead : (o : Option Peer) → length (lead_part o) < 2
few_lead None = omega arith
few_lead (Some peer) = omega arith

few_removed : (b : Bool) (o : Option Peer) (last : Step) → length (cond b (lead_part o) [] ++ last ∷ []) < 2 ^ 32
few_removed true None last = omega arith
few_removed true (Some peer) last = omega arith
few_removed false o last = omega arith

steps_few : (class : Class) (beat : RegionBeat) (stores : List StoreEntry) (now : ℕ) (peer : Peer) → length (steps_of class beat stores now peer) < 2 ^ 32
steps_few classes.Promote beat stores now peer = omega arith
steps_few classes.Transfer beat stores now peer = omega arith
steps_few classes.AddVoter beat stores now peer = omega arith
steps_few classes.AddLearner beat stores now peer = omega arith
steps_few classes.Remove beat stores now peer = few_removed _ (next_leader beat stores now) (steps.RemovePeer peer.id peer.store)

-- of a verdict
pub short : (verdict : Verdict) (beat : RegionBeat) (set : List Rule) (stores : List StoreEntry) (held : List RegionBeat) (now : ℕ) → IsVerdict beat set stores held now verdict → IsShort verdict
short (verdict.NeedsSplit keys) beat set stores held now h = tt
short verdict.NoFault beat set stores held now h = tt
short (verdict.Plan class list from to) beat set stores held now h =
    let plan = h.1.1 in subst (λ (l : List Step). length l < 2 ^ 32) (sym plan.carried) (steps_few class beat stores now plan.best.peer)
short (verdict.NoPlan from certificate) beat set stores held now h = tt

-- of what is told
abbrev IsFew : Told → Type 0
IsFew (Plans class list from to) = length list < 2 ^ 32
IsFew (Splits key) = ⊤
IsFew Fits = ⊤
IsFew (Stuck from) = ⊤

or_few : (class : Class) (beat : RegionBeat) (stores : List StoreEntry) (now from : ℕ) (o : Option Ranked) (other : Told) → IsFew other → IsFew (plan_or class beat stores now from o other)
or_few class beat stores now from None other h = h
or_few class beat stores now from (Some best) other h = steps_few class beat stores now best.peer

among_few : (list : List Class) (beat : RegionBeat) (rules : List Rule) (stores : List StoreEntry) (held : List RegionBeat) (now from : ℕ) → IsFew (plan_among list beat rules stores held now from)
among_few [] beat rules stores held now from = tt
among_few (class ∷ list) beat rules stores held now from = or_few class beat stores now from (first_of class beat rules stores held now from) _ (among_few list beat rules stores held now from)

from_few : (b : Bool) (beat : RegionBeat) (rules : List Rule) (stores : List StoreEntry) (held : List RegionBeat) (now from : ℕ) → IsFew (cond b Fits (plan_among all_classes beat rules stores held now from))
from_few true beat rules stores held now from = tt
from_few false beat rules stores held now from = among_few all_classes beat rules stores held now from

by_few : (o : Option (List ℕ)) (beat : RegionBeat) (rules : List Rule) (stores : List StoreEntry) (held : List RegionBeat) (now : ℕ) → IsFew (told_by o beat rules stores held now)
by_few (Some key) beat rules stores held now = tt
by_few None beat rules stores held now = from_few _ beat rules stores held now (number_of beat rules stores now)

told_few : (beat : RegionBeat) (set : List Rule) (stores : List StoreEntry) (held : List RegionBeat) (now : ℕ) → IsFew (told_of beat set stores held now)
unfolding told_of
told_few beat set stores held now = by_few (least_border set beat.region) beat (rules_at beat.region.start set) stores held now

-- of all plans
abbrev pub AreFew : List Planned → Type 0
AreFew plans = All (λ (one : Planned). length one.steps < 2 ^ 32) plans

few_more : (beat : RegionBeat) (told : Told) (plans : List Planned) → IsFew told → AreFew plans → AreFew (cons_option (plan_told beat told) plans)
few_more beat (Splits key) plans h rest = rest
few_more beat Fits plans h rest = rest
few_more beat (Stuck from) plans h rest = rest
few_more beat (Plans class list from to) plans h rest = All-cons (λ (one : Planned). length one.steps < 2 ^ 32) (record { beat = beat; steps = list }) plans h rest

pub plans_few : (around : Around) (beats : List RegionBeat) → AreFew (filter_map (λ beat. plan_told beat (told_in around beat)) beats)
plans_few around [] = All-nil (λ (one : Planned). length one.steps < 2 ^ 32)
plans_few around (beat ∷ beats) = few_more beat (told_in around beat) _ (told_few beat around.rules around.stores around.held around.now) (plans_few around beats)

-- of the plans of wishes
abbrev FewPlan : Plan → Type 0
FewPlan (Ok list) = length list < 2 ^ 32
FewPlan (Err fault) = ⊤

few_either : (b : Bool) (one two : Plan) → FewPlan one → FewPlan two → FewPlan (cond b one two)
few_either true one two h k = h
few_either false one two h k = k

-- a new peer's steps, behind its tests
abbrev new_steps : ℕ → Plan
new_steps store = Ok (steps.AddLearner 0 store ∷ (steps.PromoteLearner 0 store ∷ []))

-- a plan behind the test of a store that has a peer, and behind that of one that isn't usable
abbrev unheld : ℕ → RegionBeat → Plan → Plan
unheld store beat plan = cond (has_store store beat) (Err faults.HasPeer) plan

abbrev usable : ℕ → RegionBeat → List StoreEntry → ℕ → Plan → Plan
usable store beat stores now plan = cond (not (is_usable store now stores)) (Err faults.NotUsable) (unheld store beat plan)

usable_few : (store : ℕ) (beat : RegionBeat) (stores : List StoreEntry) (now : ℕ) (plan : Plan) → FewPlan plan → FewPlan (usable store beat stores now plan)
usable_few store beat stores now plan h =
    few_either (not (is_usable store now stores)) (Err faults.NotUsable) (unheld store beat plan) tt (few_either (has_store store beat) (Err faults.HasPeer) plan tt h)

known_few : (store : ℕ) (stores : List StoreEntry) (plan : Plan) → FewPlan plan → FewPlan (cond (is_unknown store stores) (Err faults.UnknownStore) plan)
known_few store stores plan h = few_either (is_unknown store stores) (Err faults.UnknownStore) plan tt h

new_few : (store : ℕ) → FewPlan (new_steps store)
new_few store = omega arith

add_few : (store : ℕ) (beat : RegionBeat) (stores : List StoreEntry) (now : ℕ) → FewPlan (add_plan store beat stores now)
add_few store beat stores now = known_few store stores (usable store beat stores now (new_steps store)) (usable_few store beat stores now (new_steps store) (new_few store))

abbrev led : Peer → Plan
led peer = Ok (steps.TransferLeader peer.id peer.store ∷ [])

led_few : (peer : Peer) → FewPlan (led peer)
led_few peer = omega arith

lead_few : (o : Option Peer) (beat : RegionBeat) → FewPlan (lead_by o beat)
lead_few None beat = tt
lead_few (Some peer) beat =
    few_either (peer.id == beat.leader) (Err faults.IsLeader) (cond (not (is_voter peer)) (Err faults.NotVoter) (led peer)) tt (few_either (not (is_voter peer)) (Err faults.NotVoter) (led peer) tt (led_few peer))

leader_few : (peer : Peer) (o : Option Peer) → FewPlan (remove_leader peer o)
leader_few peer None = tt
leader_few peer (Some next) = omega arith

remove_few : (o : Option Peer) (beat : RegionBeat) (stores : List StoreEntry) (now : ℕ) → FewPlan (remove_by o beat stores now)
remove_few None beat stores now = tt
remove_few (Some peer) beat stores now =
    few_either _ _ (Ok (steps.RemovePeer peer.id peer.store ∷ [])) (leader_few peer (next_leader beat stores now)) (omega arith)

moved_few : (voter leads : Bool) (o : Option Peer) (to : ℕ) (last : Step)
    → length (((steps.AddLearner 0 to ∷ []) ++ cond voter (steps.PromoteLearner 0 to ∷ []) [] ++ cond leads (next_part o to) []) ++ last ∷ []) < 2 ^ 32
moved_few true true None to last = omega arith
moved_few true true (Some next) to last = omega arith
moved_few true false o to last = omega arith
moved_few false true None to last = omega arith
moved_few false true (Some next) to last = omega arith
moved_few false false o to last = omega arith

move_few : (o : Option Peer) (to : ℕ) (beat : RegionBeat) (stores : List StoreEntry) (now : ℕ) → FewPlan (move_by o to beat stores now)
move_few None to beat stores now = tt
move_few (Some peer) to beat stores now = moved_few _ _ (next_leader beat stores now) to (steps.RemovePeer peer.id peer.store)

plan_few : (wish : Wish) (beat : RegionBeat) (stores : List StoreEntry) (now : ℕ) → FewPlan (plan_of wish beat stores now)
plan_few (wishes.AddPeer store) beat stores now = add_few store beat stores now
plan_few (wishes.TransferLeader store) beat stores now = known_few store stores (lead_by (peer_on store beat) beat) (lead_few (peer_on store beat) beat)
plan_few (wishes.RemovePeer store) beat stores now = known_few store stores (remove_by (peer_on store beat) beat stores now) (remove_few (peer_on store beat) beat stores now)
plan_few (wishes.MovePeer from to) beat stores now =
    let moved = move_by (peer_on from beat) to beat stores now in
    known_few from stores (cond (is_unknown to stores) (Err faults.UnknownStore) (usable to beat stores now moved))
    (known_few to stores (usable to beat stores now moved) (usable_few to beat stores now moved (move_few (peer_on from beat) to beat stores now)))

pub built_few : (wish : Wish) (beat : RegionBeat) (stores : List StoreEntry) (now : ℕ) (list : List Step) → plan_of wish beat stores now ≡ Ok list → length list < 2 ^ 32
built_few wish beat stores now list is = subst FewPlan is (plan_few wish beat stores now)
