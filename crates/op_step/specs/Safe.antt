-- A safe step: it may be sent to the region's leader (own choice, for PD's checks before an operator's step).
use Rattle.std.specs.Prelude.{◌≡◌, ℕ, ◌*◌, nat_lt, Bool, true, false, ◌&&◌, ◌||◌, ◌==◌, not, List, if◌then◌else◌, IsTrue, Result, Ok, Err}
use Rattle.std.specs.List.{list_any}
use Rattle.pd_types.specs.declared.region.Peer.{Peer}
use Rattle.pd_types.specs.declared.region.Role.TheVariants.{Voter}
use Rattle.pd_types.specs.declared.region.RegionBeat.{RegionBeat}
use Rattle.pd_types.specs.declared.step.Step.{Step}
use Rattle.pd_types.specs.declared.step.Step.TheVariants.{AddLearner, PromoteLearner, TransferLeader, RemovePeer}
use Rattle.store_table.specs.declared.entry.StoreEntry.{StoreEntry}
use Rattle.store_table.specs.Entries.{is_live}
use Rattle.op_step.specs.declared.safety.Held.{Held}
use Rattle.op_step.specs.declared.safety.Why.{Why}
use Rattle.op_step.specs.declared.safety.Why.TheVariants as why
use Rattle.pd_types.specs.Roles.{is_learner}
use Rattle.op_step.specs.Peers.{has_id, has_peer, has_store, is_down, is_peer, is_pending, is_target}
use Rattle.op_step.specs.Votes.{is_voter, live_of, voters_of, HasMajority}
use Rattle.op_step.specs.After.{after}

-- a new peer's id and store aren't in the region, or it stands there already; a learner to promote is on a live store and
-- isn't pending; the next leader is a voter that is a target; the leader isn't removed
abbrev pub is_right : Step → RegionBeat → List StoreEntry → ℕ → Bool
is_right (AddLearner id store) beat stores now = (not (has_id id beat) && not (has_store store beat)) || has_peer id store beat
is_right (PromoteLearner id store) beat stores now =
    list_any (λ peer. is_peer id store peer && is_learner peer.role && is_live peer.store now stores && not (is_pending beat peer.id)) beat.region.peers
is_right (TransferLeader id store) beat stores now =
    list_any (λ peer. is_peer id store peer && is_voter peer && is_target beat stores now peer) beat.region.peers
is_right (RemovePeer id store) beat stores now = has_peer id store beat && not (beat.leader == id)

-- a majority of the voters is live before the step and after it, and its target is right
pub record IsSafe (step : Step) (beat : RegionBeat) (stores : List StoreEntry) (now : ℕ) : Type 0 where
  pub before : HasMajority beat stores now
  pub after_it : HasMajority (after step beat) stores now
  pub target : IsTrue (is_right step beat stores now)

-- the numbers that a refusal names: those of a region
abbrev pub held_with : RegionBeat → List StoreEntry → ℕ → Why → Held
held_with beat stores now reason = record { live = live_of beat stores now; voters = voters_of beat; why = reason }

-- more than half of the voters, as a test
abbrev pub has_majority : RegionBeat → List StoreEntry → ℕ → Bool
has_majority beat stores now = nat_lt (voters_of beat) (2 * live_of beat stores now)

-- the first of the three tests that fails, with its numbers
abbrev pub gate_of : Step → RegionBeat → List StoreEntry → ℕ → Result (Unit {0}) Held
gate_of step beat stores now =
    if not (has_majority beat stores now) then Err (held_with beat stores now why.Before)
    else (if not (has_majority (after step beat) stores now) then Err (held_with (after step beat) stores now why.After)
    else (if not (is_right step beat stores now) then Err (held_with beat stores now why.Target) else Ok tt))

-- the peer of this id on this store: a voter on a live store, neither down nor pending
pub record IsFitToLead (id store : ℕ) (beat : RegionBeat) (stores : List StoreEntry) (now : ℕ) (peer : Peer) : Type 0 where
  pub named : peer.id ≡ id
  pub there : peer.store ≡ store
  pub voter : peer.role ≡ Voter
  pub live : is_live peer.store now stores ≡ true
  pub up : is_down beat peer.id ≡ false
  pub whole : is_pending beat peer.id ≡ false
