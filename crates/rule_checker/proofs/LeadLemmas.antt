-- Who leads is all one where no rule tells the leader from the other voters.
use Rattle.std.proofs.Common.{◌≡◌, ℕ, zero, suc, Bool, true, false, List, [], ◌∷◌, refl, ap, subst, ◌&&◌, ◌||◌, Option, Some, None, nat_eq, arith, length}
use Rattle.std.proofs.lemmas.Bool.{true≢false}
use Rattle.std.specs.List.{slice_get, list_any}
use mathlib.Core.Path.{fun_ext}
use Rattle.pd_types.specs.declared.region.Role.{Role}
use Rattle.pd_types.specs.declared.region.Peer.{Peer}
use Rattle.pd_types.specs.declared.region.RegionBeat.{RegionBeat}
use Rattle.pd_types.specs.declared.rule.Rule.{Rule}
use Rattle.pd_types.specs.declared.rule.RuleRole.{RuleRole}
use Rattle.pd_types.specs.declared.rule.RuleRole.TheVariants as asks
use Rattle.store_table.specs.declared.entry.StoreEntry.{StoreEntry}
use Rattle.rule_fit.specs.Certificate.{IsMisfitNumber}
use Rattle.rule_fit.specs.Suits.{both_suit, counts_of, role_suits, store_suits, suits_in}
use Rattle.rule_fit.proofs.LawLemmas.{one_number}
use Rattle.rule_checker.specs.declared.class.Class.TheVariants.{Transfer}
use Rattle.rule_checker.specs.declared.class.Ranked.{Ranked}
use Rattle.rule_checker.specs.Best.{tells_by, tells_leader}
use Rattle.rule_checker.specs.Candidates.{after_all, steps_of}
use Rattle.rule_checker.specs.Measure.{HasNumber, Lowers}

one_role : (asked : RuleRole) (role : Role) (leads other : Bool) → tells_by asked ≡ false → role_suits asked role leads ≡ role_suits asked role other
one_role asks.Voter role leads other e = refl
one_role asks.Leader role leads other e = absurd (true≢false e)
one_role asks.Follower role leads other e = absurd (true≢false e)
one_role asks.Learner role leads other e = refl

one_suits : (leader other : ℕ) (stores : List StoreEntry) (now : ℕ) (peer : Option Peer) (rule : Rule) → tells_leader rule ≡ false → both_suit leader stores now peer (Some rule) ≡ both_suit other stores now peer (Some rule)
one_suits leader other stores now None rule e = refl
one_suits leader other stores now (Some peer) rule e =
    ap (λ (b : Bool). store_suits stores now peer.store rule && b) (one_role rule.role peer.role (nat_eq peer.id leader) (nat_eq peer.id other) e)

no_rule : (leader other : ℕ) (stores : List StoreEntry) (now : ℕ) (peer : Option Peer) → both_suit leader stores now peer None ≡ both_suit other stores now peer None
no_rule leader other stores now None = refl
no_rule leader other stores now (Some peer) = refl

first_false : (a b : Bool) → (a || b) ≡ false → a ≡ false
first_false true b e = absurd (true≢false e)
first_false false b e = refl

last_false : (a b : Bool) → (a || b) ≡ false → b ≡ false
last_false true b e = absurd (true≢false e)
last_false false b e = e

all_suit : (leader other : ℕ) (stores : List StoreEntry) (now : ℕ) (peer : Option Peer) (rules : List Rule) (r : ℕ) → list_any tells_leader rules ≡ false → both_suit leader stores now peer (slice_get rules r) ≡ both_suit other stores now peer (slice_get rules r)
all_suit leader other stores now peer [] r none = no_rule leader other stores now peer
all_suit leader other stores now peer (rule ∷ rules) zero none = one_suits leader other stores now peer rule (first_false (tells_leader rule) (list_any tells_leader rules) none)
all_suit leader other stores now peer (rule ∷ rules) (suc r) none = all_suit leader other stores now peer rules r (last_false (tells_leader rule) (list_any tells_leader rules) none)

-- so a change of the leader lowers no number
pub no_transfer : (beat : RegionBeat) (rules : List Rule) (stores : List StoreEntry) (now from : ℕ) (one : Ranked) → list_any tells_leader rules ≡ false → HasNumber beat rules stores now from → Lowers Transfer beat rules stores now from one → ⊥
no_transfer beat rules stores now from one none number lowers =
    let left : RegionBeat = after_all (steps_of Transfer beat stores now one.peer) beat in
    let same : suits_in left rules stores now ≡ suits_in beat rules stores now = fun_ext (λ p. fun_ext (λ r. all_suit left.leader beat.leader stores now (slice_get beat.region.peers p) rules r none)) in
    let again : HasNumber beat rules stores now one.to = subst (λ (suits : ℕ → ℕ → Bool). IsMisfitNumber suits (length beat.region.peers) (counts_of rules) one.to) same lowers.leaves in
    let equal = one_number (suits_in beat rules stores now) (length beat.region.peers) (counts_of rules) one.to from again number in
    let lower = lowers.lower in omega arith
