-- The candidates of a plan and their steps (PD documentation, "Placement Rules"; the classes and their order are our own choice).
use Rattle.std.specs.Prelude.{◌≢◌, ℕ, nat_lt, Bool, ◌&&◌, ◌||◌, ◌==◌, not, List, [], ◌∷◌, ◌++◌, length, map, sum, if◌then◌else◌, is_some, Option, Some, None, IsTrue, Contains}
use Rattle.pd_types.specs.Roles.{is_learner}
use Rattle.pd_types.specs.declared.beat.TheConstants.{MAX_PEERS}
use Rattle.pd_types.specs.declared.region.Role.TheVariants as roles
use Rattle.pd_types.specs.declared.region.Peer.{Peer}
use Rattle.pd_types.specs.declared.region.RegionBeat.{RegionBeat}
use Rattle.pd_types.specs.declared.rule.Rule.{Rule}
use Rattle.pd_types.specs.declared.step.Step.{Step}
use Rattle.pd_types.specs.declared.step.Step.TheVariants as steps
use Rattle.store_table.specs.declared.entry.StoreEntry.{StoreEntry}
use Rattle.store_table.specs.Entries.{is_live, is_usable}
use Rattle.op_step.specs.Peers.{has_store, is_target}
use Rattle.op_step.specs.Wishes.{may_lead, next_leader}
use Rattle.op_step.specs.After.{after}
use Rattle.rule_fit.specs.Suits.{counts_of}
use Rattle.rule_checker.specs.declared.class.Class.{Class}
use Rattle.rule_checker.specs.declared.class.Class.TheVariants.{Promote, Transfer, AddVoter, AddLearner, Remove}

-- the new peer on a store: a learner, whose id is 0 until it is given one
abbrev pub new_on : ℕ → Peer
new_on store = record { id = 0; store = store; role = roles.Learner }

-- the new peers, one for each known store
abbrev pub new_peers : List StoreEntry → List Peer
new_peers stores = map (λ entry. new_on entry.store.id) stores

-- whom a class may be about: a peer of the region, or a new peer on a store
abbrev pub pool : Class → RegionBeat → List StoreEntry → List Peer
pool Promote beat stores = beat.region.peers
pool Transfer beat stores = beat.region.peers
pool AddVoter beat stores = new_peers stores
pool AddLearner beat stores = new_peers stores
pool Remove beat stores = beat.region.peers

-- the store is live and usable and has no peer of the region, which has room for one
abbrev pub may_come : RegionBeat → List StoreEntry → ℕ → ℕ → Bool
may_come beat stores now store = is_live store now stores && is_usable store now stores && not (has_store store beat) && nat_lt (length beat.region.peers) MAX_PEERS

-- the region has more peers than the rules ask for, and the leader goes only where another peer can lead
abbrev pub may_go : RegionBeat → List Rule → List StoreEntry → ℕ → Peer → Bool
may_go beat rules stores now peer =
    nat_lt (sum (counts_of rules)) (length beat.region.peers) && (not (peer.id == beat.leader) || is_some (next_leader beat stores now))

-- what a class asks of the peer
abbrev pub passes : Class → RegionBeat → List Rule → List StoreEntry → ℕ → Peer → Bool
passes Promote beat rules stores now peer = is_learner peer.role && is_target beat stores now peer
passes Transfer beat rules stores now peer = may_lead beat stores now peer
passes AddVoter beat rules stores now peer = may_come beat stores now peer.store
passes AddLearner beat rules stores now peer = may_come beat stores now peer.store
passes Remove beat rules stores now peer = may_go beat rules stores now peer

-- a candidate of the class; there is none where no rule is in force
pub record IsCandidate (class : Class) (beat : RegionBeat) (rules : List Rule) (stores : List StoreEntry) (now : ℕ) (peer : Peer) : Type 0 where
  pub ruled : rules ≢ []
  pub held : Contains (pool class beat stores) peer
  pub passes : IsTrue (passes class beat rules stores now peer)

-- the next leader takes the lead
abbrev pub lead_part : Option Peer → List Step
lead_part None = []
lead_part (Some next) = steps.TransferLeader next.id next.store ∷ []

-- the steps of a candidate; a leader that goes first hands the lead to the voter of the least id that can lead
abbrev pub steps_of : Class → RegionBeat → List StoreEntry → ℕ → Peer → List Step
steps_of Promote beat stores now peer = steps.PromoteLearner peer.id peer.store ∷ []
steps_of Transfer beat stores now peer = steps.TransferLeader peer.id peer.store ∷ []
steps_of AddVoter beat stores now peer = steps.AddLearner peer.id peer.store ∷ (steps.PromoteLearner peer.id peer.store ∷ [])
steps_of AddLearner beat stores now peer = steps.AddLearner peer.id peer.store ∷ []
steps_of Remove beat stores now peer =
    (if peer.id == beat.leader then lead_part (next_leader beat stores now) else []) ++ steps.RemovePeer peer.id peer.store ∷ []

-- the region after all the steps
abbrev pub after_all : List Step → RegionBeat → RegionBeat
after_all [] beat = beat
after_all (step ∷ steps) beat = after_all steps (after step beat)
