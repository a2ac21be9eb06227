-- The steps that carry out a wish (pd-ctl, `operator add`; PD documentation, "Scheduling").
use Rattle.std.specs.Prelude.{◌≡◌, ℕ, nat_le, Bool, ◌&&◌, ◌==◌, not, List, [], ◌∷◌, ◌++◌, filter, fold, if◌then◌else◌, is_none, Option, Some, None, Result, Ok, Err, ⊤}
use Rattle.pd_types.specs.declared.region.Peer.{Peer}
use Rattle.pd_types.specs.declared.region.RegionBeat.{RegionBeat}
use Rattle.pd_types.specs.declared.step.Step.{Step}
use Rattle.pd_types.specs.declared.step.Step.TheVariants as steps
use Rattle.store_table.specs.declared.entry.StoreEntry.{StoreEntry}
use Rattle.store_table.specs.Entries.{entry_at, is_usable}
use Rattle.op_step.specs.declared.wishes.Wish.{Wish}
use Rattle.op_step.specs.declared.wishes.Wish.TheVariants as wish
use Rattle.op_step.specs.declared.wishes.BuildFault.{BuildFault}
use Rattle.op_step.specs.declared.wishes.BuildFault.TheVariants as faults
use Rattle.op_step.specs.Peers.{has_store, is_target, peer_on}
use Rattle.op_step.specs.Votes.{is_voter}

-- the steps, or the fault
abbrev pub Plan : Type 0
Plan = Result (List Step) BuildFault

-- who may lead in the leader's place: another voter that is a target
abbrev pub may_lead : RegionBeat → List StoreEntry → ℕ → Peer → Bool
may_lead beat stores now peer = is_voter peer && not (peer.id == beat.leader) && is_target beat stores now peer

-- the one of lesser id, the earlier of two with one id
abbrev pub lesser : Option Peer → Peer → Option Peer
lesser None peer = Some peer
lesser (Some best) peer = if nat_le best.id peer.id then Some best else Some peer

-- the peer of the least id among those who may lead
abbrev pub next_leader : RegionBeat → List StoreEntry → ℕ → Option Peer
next_leader beat stores now = fold lesser None (filter (may_lead beat stores now) beat.region.peers)

-- no store of this id is known
abbrev pub is_unknown : ℕ → List StoreEntry → Bool
is_unknown store stores = is_none (entry_at store stores)

-- a new peer: a learner first, and then a voter. Its id is 0 until it is given one
abbrev pub add_plan : ℕ → RegionBeat → List StoreEntry → ℕ → Plan
add_plan store beat stores now =
    if is_unknown store stores then Err faults.UnknownStore
    else (if not (is_usable store now stores) then Err faults.NotUsable
    else (if has_store store beat then Err faults.HasPeer
    else Ok (steps.AddLearner 0 store ∷ (steps.PromoteLearner 0 store ∷ []))))

-- the peer on the store takes the lead
abbrev pub lead_by : Option Peer → RegionBeat → Plan
lead_by None beat = Err faults.NoPeer
lead_by (Some peer) beat =
    if peer.id == beat.leader then Err faults.IsLeader
    else (if not (is_voter peer) then Err faults.NotVoter
    else Ok (steps.TransferLeader peer.id peer.store ∷ []))

-- the peer on the store takes the lead, unless the store isn't known
abbrev pub transfer_plan : ℕ → RegionBeat → List StoreEntry → Plan
transfer_plan store beat stores = if is_unknown store stores then Err faults.UnknownStore else lead_by (peer_on store beat) beat

-- the leader is removed once the next leader leads
abbrev pub remove_leader : Peer → Option Peer → Plan
remove_leader peer None = Err faults.NoTarget
remove_leader peer (Some next) = Ok (steps.TransferLeader next.id next.store ∷ (steps.RemovePeer peer.id peer.store ∷ []))

-- the peer is removed
abbrev pub remove_by : Option Peer → RegionBeat → List StoreEntry → ℕ → Plan
remove_by None beat stores now = Err faults.NoPeer
remove_by (Some peer) beat stores now =
    if peer.id == beat.leader then remove_leader peer (next_leader beat stores now) else Ok (steps.RemovePeer peer.id peer.store ∷ [])

-- the peer on the store is removed, unless the store isn't known
abbrev pub remove_plan : ℕ → RegionBeat → List StoreEntry → ℕ → Plan
remove_plan store beat stores now =
    if is_unknown store stores then Err faults.UnknownStore else remove_by (peer_on store beat) beat stores now

-- the new peer becomes a voter where the moved one is one
abbrev pub promote_part : Peer → ℕ → List Step
promote_part peer to = if is_voter peer then steps.PromoteLearner 0 to ∷ [] else []

-- the next leader leads, or the new peer where nobody else may
abbrev pub next_part : Option Peer → ℕ → List Step
next_part None to = steps.TransferLeader 0 to ∷ []
next_part (Some next) to = steps.TransferLeader next.id next.store ∷ []

-- the lead moves where the moved peer has it
abbrev pub lead_part : Peer → ℕ → RegionBeat → List StoreEntry → ℕ → List Step
lead_part peer to beat stores now = if peer.id == beat.leader then next_part (next_leader beat stores now) to else []

-- the peer moves: a new one is there before the old one goes
abbrev pub move_by : Option Peer → ℕ → RegionBeat → List StoreEntry → ℕ → Plan
move_by None to beat stores now = Err faults.NoPeer
move_by (Some peer) to beat stores now =
    Ok (((steps.AddLearner 0 to ∷ []) ++ promote_part peer to ++ lead_part peer to beat stores now) ++ steps.RemovePeer peer.id peer.store ∷ [])

-- the peer on the one store moves to the other
abbrev pub move_plan : ℕ → ℕ → RegionBeat → List StoreEntry → ℕ → Plan
move_plan from to beat stores now =
    if is_unknown from stores then Err faults.UnknownStore
    else (if is_unknown to stores then Err faults.UnknownStore
    else (if not (is_usable to now stores) then Err faults.NotUsable
    else (if has_store to beat then Err faults.HasPeer
    else move_by (peer_on from beat) to beat stores now)))

-- the steps of the wish, or the first of the seven faults
abbrev pub plan_of : Wish → RegionBeat → List StoreEntry → ℕ → Plan
plan_of (wish.AddPeer store) beat stores now = add_plan store beat stores now
plan_of (wish.TransferLeader store) beat stores now = transfer_plan store beat stores
plan_of (wish.RemovePeer store) beat stores now = remove_plan store beat stores now
plan_of (wish.MovePeer from to) beat stores now = move_plan from to beat stores now

-- the fault is the plan's, or want of memory
abbrev pub FaultOf : Plan → BuildFault → Type 0
FaultOf plan faults.NoMemory = ⊤
FaultOf plan fault = plan ≡ Err fault

-- the step with this id in the place of a new peer's
abbrev pub given : ℕ → ℕ → ℕ
given id peer = if peer == 0 then id else peer

-- the id is given to the step's peer, where that has none
abbrev pub step_with : ℕ → Step → Step
step_with id (steps.AddLearner peer store) = steps.AddLearner (given id peer) store
step_with id (steps.PromoteLearner peer store) = steps.PromoteLearner (given id peer) store
step_with id (steps.TransferLeader peer store) = steps.TransferLeader (given id peer) store
step_with id (steps.RemovePeer peer store) = steps.RemovePeer (given id peer) store
