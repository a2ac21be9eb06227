-- What comes of a wish for a region (pd-ctl, `operator add`; PD's schedulers): its steps are built, and its operator is tried like any other.
use Rattle.std.specs.Prelude.{◌≡◌, ℕ, ◌<◌, ◌^◌, ◌++◌, ⊤, List, length, Option, Some, None, Result, Ok, Err}
use Rattle.pd_types.specs.declared.proposal.Proposal.{Proposal}
use Rattle.pd_types.specs.declared.proposal.Proposal.TheVariants as proposals
use Rattle.pd_types.specs.declared.region.RegionBeat.{RegionBeat}
use Rattle.op_control.specs.declared.operator.NewOp.{NewOp}
use Rattle.op_control.specs.declared.adding.AddFault.TheVariants as faults
use Rattle.op_step.specs.Wishes.{Plan, plan_of}
use Rattle.op_step.specs.declared.wishes.Wish.{Wish}
use Rattle.op_step.specs.declared.wishes.Wish.TheVariants as wishes
use Rattle.pd_state.specs.Adding.{Around, Planning, Work, add_op, left_out, work}
use Rattle.pd_state.specs.Asking.{Asking, Ear, Talks, done}
use Rattle.pd_state.specs.Sends.{region_in}
use Rattle.pd_state.specs.declared.adding.Adding.{Adding}
use Rattle.pd_state.specs.declared.adding.Adding.TheVariants as adding
use Rattle.pd_state.specs.declared.patrol.Planned.{Planned}
use Rattle.pd_state.specs.declared.sent.Sent.{Sent}
use Rattle.pd_state.specs.declared.wishing.Asker.{Asker}

-- the operator that someone asks for
abbrev pub op_of : Asker → Planned → NewOp
op_of asker planned = record { region = planned.beat.region.id; epoch = planned.beat.region.epoch; steps = planned.steps; kind = asker.kind; priority = asker.priority }

-- a region with the steps of its plan, or the fault of building it
abbrev pub planned_or : RegionBeat → Plan → Result Planned Adding
planned_or beat (Ok steps) = Ok (record { beat = beat; steps = steps })
planned_or beat (Err fault) = Err (adding.Build fault)

-- the same of a wish, by the region's heartbeat: a region that isn't held comes before all faults
abbrev pub wished_by : Option RegionBeat → Around → Wish → Result Planned Adding
wished_by None around wish = Err (adding.Add faults.NoRegion)
wished_by (Some beat) around wish = planned_or beat (plan_of wish beat around.stores around.now)

-- the region of this id with the steps of a wish for it, or why there are none
abbrev pub wished : Around → ℕ → Wish → Result Planned Adding
wished around region wish = wished_by (region_in region around.held) around wish

-- the operator of what was wished is tried, where there is one
abbrev pub try_wished : Around → Asker → Planning → Result Planned Adding → Asking Work
try_wished around asker planning (Ok planned) = add_op around (op_of asker planned) planned.beat planning
try_wished around asker planning (Err why) = done (left_out planning why)

-- how many steps it has
abbrev pub steps_in : Result Planned Adding → ℕ
steps_in (Ok planned) = length planned.steps
steps_in (Err why) = 0

-- the region of a proposal
abbrev pub region_of : Proposal → ℕ
region_of (proposals.MovePeer region from to) = region
region_of (proposals.MoveLeader region to) = region
region_of (proposals.DropPeer region store) = region

-- a proposal as a wish
abbrev pub wish_of : Proposal → Wish
wish_of (proposals.MovePeer region from to) = wishes.MovePeer from to
wish_of (proposals.MoveLeader region to) = wishes.TransferLeader to
wish_of (proposals.DropPeer region store) = wishes.RemovePeer store

-- an operator of what was wished has few steps
abbrev pub FewOr : Result Planned Adding → Type 0
FewOr (Ok planned) = length planned.steps < 2 ^ 32
FewOr (Err why) = ⊤

-- an operator of what was wished was tried over a door: what is planned then, what was sent besides, and what came of it
pub record Tries (around : Around) (asker : Asker) (found : Result Planned Adding) (old new : Planning) (sents_old sents_new : List Sent) (came : Adding) (driver : ℕ) (ear_old ear_new : Ear) : Type 0 where
  pub sents : List Sent
  pub sent : sents_new ≡ sents_old ++ sents
  pub talks : Talks Work (try_wished around asker old found) (work new sents came) driver ear_old ear_new
