-- The candidates and their order in words.
use Rattle.std.proofs.Common.{◌≡◌, ◌≢◌, ◌↔◌, ◌<◌, ℕ, Bool, true, false, not, ◌&&◌, ◌||◌, ◌==◌, nat_lt, List, length, sum, get_or, Option, Some, None, is_some, All, Any, IsTrue, arith, refl, sym, ◌∙◌, ap, true≢false}
use Rattle.std.proofs.lemmas.Bool.Decides.{nat_tests}
use Rattle.std.proofs.lemmas.List.Folds.{list_any_at, list_any_none}
use Rattle.pd_types.specs.declared.region.Role.TheVariants as roles
use Rattle.pd_types.specs.declared.region.Peer.{Peer}
use Rattle.pd_types.specs.declared.region.RegionBeat.{RegionBeat}
use Rattle.pd_types.specs.declared.rule.Rule.{Rule}
use Rattle.pd_types.specs.Roles.{is_learner}
use Rattle.pd_types.proofs.RoleLemmas.{learns, votes}
use Rattle.store_table.specs.declared.entry.StoreEntry.{StoreEntry}
use Rattle.store_table.specs.Entries.{is_live, is_usable}
use Rattle.op_step.specs.NextLeader.{IsNext}
use Rattle.op_step.specs.Peers.{has_store, is_target}
use Rattle.op_step.specs.Votes.{is_voter}
use Rattle.op_step.specs.Wishes.{may_lead, next_leader}
use Rattle.op_step.proofs.NextLemmas.{next-is-least}
use Rattle.op_step.proofs.CarriedLemmas.{apart, both, denied, same_number, unequal}
use Rattle.rule_fit.specs.Suits.{counts_of}
use Rattle.rule_checker.specs.declared.class.Class.TheVariants.{Promote, Transfer, AddVoter, Remove}
use Rattle.rule_checker.specs.Candidates.{passes}
use Rattle.pd_types.specs.Numbers.{lesser_then}

-- the lesser one goes first
pub first_by : (a b : ℕ) (rest : Bool) → a < b → lesser_then a b rest ≡ true
first_by a b rest low = grind (arith, nat_tests)

-- of equal ones the rest decides
pub then_by : (a b : ℕ) (rest : Bool) → a ≡ b → rest ≡ true → lesser_then a b rest ≡ true
then_by a b rest same h = grind (arith, nat_tests)

pub below : (a b : ℕ) → a < b → nat_lt a b ≡ true
below a b low = grind (arith, nat_tests)

pub is_below : (a b : ℕ) → nat_lt a b ≡ true → a < b
is_below a b h = grind (arith, nat_tests)

and : (a b : Bool) → a ≡ true → b ≡ true → (a && b) ≡ true
and a b h k = rw (h, k) refl

-- a learner that is a target
pub promotes : (beat : RegionBeat) (rules : List Rule) (stores : List StoreEntry) (now : ℕ) (peer : Peer) → IsTrue (passes Promote beat rules stores now peer) ↔ ((peer.role ≡ roles.Learner) × IsTrue (is_target beat stores now peer))
promotes beat rules stores now peer =
    (λ h. let parts = both (is_learner peer.role) (is_target beat stores now peer) h in ((learns peer.role).0 parts.0, parts.1), λ h. and _ _ ((learns peer.role).1 h.0) h.1)

-- another voter that is a target
pub transfers : (beat : RegionBeat) (rules : List Rule) (stores : List StoreEntry) (now : ℕ) (peer : Peer) → IsTrue (passes Transfer beat rules stores now peer) ↔ ((peer.role ≡ roles.Voter) × (peer.id ≢ beat.leader) × IsTrue (is_target beat stores now peer))
transfers beat rules stores now peer = (
  λ h.
      let parts = both (is_voter peer && not (peer.id == beat.leader)) (is_target beat stores now peer) h in
      let first = both (is_voter peer) (not (peer.id == beat.leader)) parts.0 in
      ((votes peer.role).0 first.0, unequal peer.id beat.leader (denied (peer.id == beat.leader) first.1), parts.1),
  λ h.
      and (is_voter peer && not (peer.id == beat.leader)) (is_target beat stores now peer)
      (and (is_voter peer) (not (peer.id == beat.leader)) ((votes peer.role).1 h.0) (rw (apart peer.id beat.leader h.1) refl)) h.2,
)

-- the region has no peer on the store
none_there : (store : ℕ) (beat : RegionBeat) → has_store store beat ≡ false → All (λ (one : Peer). one.store ≢ store) beat.region.peers
none_there store beat free k d low at =
    true≢false (sym (list_any_at (λ (one : Peer). one.store == store) beat.region.peers k d low (ap (λ (n : ℕ). n == store) at ∙ same_number store)) ∙ free)

free_there : (store : ℕ) (beat : RegionBeat) → All (λ (one : Peer). one.store ≢ store) beat.region.peers → has_store store beat ≡ false
free_there store beat all = list_any_none (λ (one : Peer). one.store == store) beat.region.peers (λ k d low. apart (get_or beat.region.peers k d).store store (all k d low))

-- a live and usable store without a peer of the region, which has room
pub comes : (beat : RegionBeat) (rules : List Rule) (stores : List StoreEntry) (now : ℕ) (peer : Peer) → IsTrue (passes AddVoter beat rules stores now peer) ↔ (IsTrue (is_live peer.store now stores) × IsTrue (is_usable peer.store now stores) × All (λ (one : Peer). one.store ≢ peer.store) beat.region.peers × (length beat.region.peers < 15))
comes beat rules stores now peer =
    let live = is_live peer.store now stores in
    let usable = is_usable peer.store now stores in
    let free = not (has_store peer.store beat) in
    let room = nat_lt (length beat.region.peers) 15 in (
      λ h.
          let third = both ((live && usable) && free) room h in
          let second = both (live && usable) free third.0 in
          let first = both live usable second.0 in
          (first.0, first.1, none_there peer.store beat (denied (has_store peer.store beat) second.1), is_below (length beat.region.peers) 15 third.1),
      λ h.
          and ((live && usable) && free) room
          (and (live && usable) free (and live usable h.0 h.1) (rw (free_there peer.store beat h.2) refl))
          (below (length beat.region.peers) 15 h.3),
    )

-- who can lead
some_can : (beat : RegionBeat) (stores : List StoreEntry) (now : ℕ) (next : Option Peer) → IsNext beat stores now next → is_some next ≡ true → Any (λ (one : Peer). IsTrue (may_lead beat stores now one)) beat.region.peers
some_can beat stores now None is h = absurd (cc)
some_can beat stores now (Some peer) is h = (is.held.0, peer, is.held.1, is.held.2, is.able)

can_some : (beat : RegionBeat) (stores : List StoreEntry) (now : ℕ) (next : Option Peer) → IsNext beat stores now next → Any (λ (one : Peer). IsTrue (may_lead beat stores now one)) beat.region.peers → is_some next ≡ true
can_some beat stores now None nobody any =
    absurd (true≢false (sym any.4 ∙ ap (may_lead beat stores now) (sym any.3) ∙ nobody any.0 any.1 any.2))
can_some beat stores now (Some peer) is any = refl

pub too_many : (beat : RegionBeat) (rules : List Rule) (stores : List StoreEntry) (now : ℕ) (peer : Peer) → IsTrue (passes Remove beat rules stores now peer) → sum (counts_of rules) < length beat.region.peers
too_many beat rules stores now peer h =
    is_below (sum (counts_of rules)) (length beat.region.peers) (both (nat_lt (sum (counts_of rules)) (length beat.region.peers)) (not (peer.id == beat.leader) || is_some (next_leader beat stores now)) h).0

pub goes : (beat : RegionBeat) (rules : List Rule) (stores : List StoreEntry) (now : ℕ) (peer : Peer) → sum (counts_of rules) < length beat.region.peers → peer.id ≢ beat.leader → IsTrue (passes Remove beat rules stores now peer)
goes beat rules stores now peer many other = and _ _ (below _ _ many) (rw (apart peer.id beat.leader other) refl)

leads_too : (a b : Bool) → a ≡ true → (not a || b) ≡ true → b ≡ true
leads_too true b e h = h
leads_too false b e h = absurd (cc)

or_so : (a b : Bool) → b ≡ true → (a || b) ≡ true
or_so true b h = refl
or_so false b h = h

pub leader_goes : (beat : RegionBeat) (rules : List Rule) (stores : List StoreEntry) (now : ℕ) (peer : Peer) → sum (counts_of rules) < length beat.region.peers → peer.id ≡ beat.leader → (IsTrue (passes Remove beat rules stores now peer) ↔ Any (λ (one : Peer). IsTrue (may_lead beat stores now one)) beat.region.peers)
leader_goes beat rules stores now peer many leads = (
  λ h.
      let rest = both (nat_lt (sum (counts_of rules)) (length beat.region.peers)) (not (peer.id == beat.leader) || is_some (next_leader beat stores now)) h in
      some_can beat stores now (next_leader beat stores now) (next-is-least beat stores now)
      (leads_too (peer.id == beat.leader) (is_some (next_leader beat stores now)) (ap (λ (n : ℕ). n == beat.leader) leads ∙ same_number beat.leader) rest.1),
  λ any.
      and (nat_lt (sum (counts_of rules)) (length beat.region.peers)) _ (below _ _ many)
      (or_so (not (peer.id == beat.leader)) (is_some (next_leader beat stores now)) (can_some beat stores now (next_leader beat stores now) (next-is-least beat stores now) any)),
)
