-- When an operator is added, and what adding it leaves (PD, the operator controller: `AddOperator`).
use Rattle.std.specs.Prelude.{◌≡◌, ℕ, nat_le, ◌&&◌, ◌==◌, not, Bool, List, length, map, if◌then◌else◌, Option, Some, None, ⊤}
use Rattle.std.specs.FinMap as finmap
use Rattle.pd_types.specs.declared.region.Epoch.{Epoch}
use Rattle.pd_types.specs.declared.region.RegionBeat.{RegionBeat}
use Rattle.std.specs.Option.{option_or}
use Rattle.op_step.specs.Wishes.{step_with}
use Rattle.store_limit.specs.declared.limits.Limited.{Limited}
use Rattle.store_limit.specs.Limits.{StoreLimits}
use Rattle.op_control.specs.declared.operator.NewOp.{NewOp}
use Rattle.op_control.specs.declared.operator.Operator.{Operator}
use Rattle.op_control.specs.declared.operator.OpState.TheVariants.{Created}
use Rattle.op_control.specs.declared.adding.TheConstants.{MOST_OPERATORS}
use Rattle.op_control.specs.declared.adding.AddFault.{AddFault}
use Rattle.op_control.specs.declared.adding.AddFault.TheVariants as faults
use Rattle.op_control.specs.Table.{Table, active_at, joined}
use Rattle.op_control.specs.Charging.{first_refused}

-- both numbers are equal
abbrev pub same_epoch : Epoch → Epoch → Bool
same_epoch one other = one.conf_ver == other.conf_ver && one.version == other.version

-- a store's limit refuses a step, or too many regions have an operator
abbrev pub room_refusal : Option Limited → Option Operator → ℕ → Option AddFault
room_refusal (Some limited) active count = Some (faults.Limited limited.available limited.needed)
room_refusal None (Some op) count = None
room_refusal None None count = if nat_le MOST_OPERATORS count then Some faults.Limit else None

-- the region's operator has at least the new one's priority
abbrev pub priority_refusal : Option Operator → NewOp → Option AddFault
priority_refusal None op = None
priority_refusal (Some active) op = if nat_le op.priority active.priority then Some (faults.Busy active.priority) else None

-- the first of the five refusals that applies, where the region is held with this heartbeat
abbrev pub refusal_of : Table → NewOp → Option RegionBeat → StoreLimits → ℕ → Option AddFault
refusal_of table op None limits now = Some faults.NoRegion
refusal_of table op (Some beat) limits now =
    if not (same_epoch op.epoch beat.region.epoch) then Some (faults.EpochMoved beat.region.epoch)
    else option_or (priority_refusal (active_at table op.region) op) (room_refusal (first_refused op.steps limits now) (active_at table op.region) (length table.busy))

-- the operator with this id in the place of its new peer's
abbrev pub with_new_id : NewOp → ℕ → NewOp
with_new_id op id = record { region = op.region; epoch = op.epoch; steps = map (step_with id) op.steps; kind = op.kind; priority = op.priority }

-- the operator as it is created
abbrev pub created : NewOp → ℕ → Operator
created op now = record { region = op.region; epoch = op.epoch; kind = op.kind; priority = op.priority; steps = op.steps; passed = 0; state = Created; created = now; started = 0 }

-- the busy regions with the region, where it isn't busy already
abbrev pub busy_with : Option Operator → ℕ → List ℕ → List ℕ
busy_with None region busy = joined region busy
busy_with (Some op) region busy = busy

-- the operators with a new one, in place of the region's
abbrev pub added : Table → NewOp → ℕ → Table
added table op now = record {
  last = finmap.insert table.last op.region (created op now);
  busy = busy_with (active_at table op.region) op.region table.busy;
}

-- the fault is the refusal that applies, or want of memory
abbrev pub RefusedBy : Option AddFault → AddFault → Type 0
RefusedBy refusal faults.NoMemory = ⊤
RefusedBy refusal fault = refusal ≡ Some fault
