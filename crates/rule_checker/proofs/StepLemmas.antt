-- How many peers a candidate's steps leave.
use Rattle.std.proofs.Common.{◌≡◌, ◌<◌, ◌≤◌, ℕ, ◌+◌, Bool, true, false, List, [], ◌∷◌, ◌++◌, length, arith, ◌||◌, not, if◌then◌else◌, Option, Some, None, length-append, ◌==◌}
use Rattle.std.proofs.lemmas.List.{length-map}
use Rattle.std.proofs.lemmas.Bool.Decides.{nat_tests}
use Rattle.pd_types.specs.declared.region.Peer.{Peer}
use Rattle.pd_types.specs.declared.region.Role.TheVariants as roles
use Rattle.pd_types.specs.declared.region.RegionBeat.{RegionBeat}
use Rattle.pd_types.specs.declared.rule.Rule.{Rule}
use Rattle.pd_types.specs.declared.step.Step.TheVariants as steps
use Rattle.store_table.specs.declared.entry.StoreEntry.{StoreEntry}
use Rattle.op_step.specs.After.{promoted, peers_after}
use Rattle.op_step.specs.Peers.{is_peer}
use Rattle.op_step.specs.Wishes.{next_leader}
use Rattle.std.specs.List.{list_any}
use Rattle.rule_set.proofs.RuleLemmas.{length-filter-le}
use Rattle.rule_checker.specs.declared.class.Class.{Class}
use Rattle.rule_checker.specs.declared.class.Class.TheVariants.{Promote, Transfer, AddVoter, AddLearner, Remove}
use Rattle.rule_checker.specs.Candidates.{steps_of, after_all, lead_part, passes}

one_more : (b : Bool) (peers : List Peer) (peer : Peer) → length (if b then peers else peers ++ peer ∷ []) ≤ length peers + 1
one_more true peers peer = omega arith
one_more false peers peer = let long = length-append peers (peer ∷ []) in omega arith

room : (beat : RegionBeat) (rules : List Rule) (stores : List StoreEntry) (now : ℕ) (peer : Peer) → passes AddVoter beat rules stores now peer ≡ true → length beat.region.peers < 15
room beat rules stores now peer h = grind (arith, nat_tests)

gone : (lead : Bool) (next : Option Peer) (beat : RegionBeat) (id store : ℕ) → length (after_all ((if lead then lead_part next else []) ++ steps.RemovePeer id store ∷ []) beat).region.peers ≤ length beat.region.peers
gone false next beat id store = length-filter-le (λ peer. not (is_peer id store peer)) beat.region.peers
gone true None beat id store = length-filter-le (λ peer. not (is_peer id store peer)) beat.region.peers
gone true (Some next) beat id store = length-filter-le (λ peer. not (is_peer id store peer)) beat.region.peers

-- a candidate's steps leave at most 15 peers
pub few_left : (class : Class) (beat : RegionBeat) (rules : List Rule) (stores : List StoreEntry) (now : ℕ) (peer : Peer) → length beat.region.peers ≤ 15 → passes class beat rules stores now peer ≡ true → length (after_all (steps_of class beat stores now peer) beat).region.peers ≤ 15
few_left Promote beat rules stores now peer few h = let same = length-map beat.region.peers (promoted peer.id peer.store) in omega arith
few_left Transfer beat rules stores now peer few h = few
few_left AddVoter beat rules stores now peer few h =
    let more = one_more (list_any (λ one. one.id == peer.id) beat.region.peers || list_any (λ one. one.store == peer.store) beat.region.peers) beat.region.peers (record { id = peer.id; store = peer.store; role = roles.Learner }) in
    let same = length-map (peers_after (steps.AddLearner peer.id peer.store) beat.region.peers) (promoted peer.id peer.store) in
    let less = room beat rules stores now peer h in omega arith
few_left AddLearner beat rules stores now peer few h =
    let more = one_more (list_any (λ one. one.id == peer.id) beat.region.peers || list_any (λ one. one.store == peer.store) beat.region.peers) beat.region.peers (record { id = peer.id; store = peer.store; role = roles.Learner }) in
    let less = room beat rules stores now peer h in omega arith
few_left Remove beat rules stores now peer few h =
    let less = gone (peer.id == beat.leader) (next_leader beat stores now) beat peer.id peer.store in omega arith
