-- What the answer to a heartbeat tells of the region's operator: the third column of the table of its life.
use Rattle.std.specs.Prelude.{◌≡◌, ◌≢◌, ℕ, ◌-◌, ◌<◌, ◌≤◌, false, List, [], ◌∷◌, take, drop, IsTrue, All, Some, Err}
use Rattle.pd_types.specs.declared.region.RegionBeat.{RegionBeat}
use Rattle.pd_types.specs.declared.step.Step.{Step}
use Rattle.store_table.specs.declared.entry.StoreEntry.{StoreEntry}
use Rattle.op_step.specs.declared.safety.Held.{Held}
use Rattle.op_step.specs.Finished.{is_finished}
use Rattle.op_step.specs.Safe.{IsSafe, gate_of}
use Rattle.op_control.specs.declared.operator.TheConstants.{EXPIRED_MS, TIMEOUT_MS}
use Rattle.op_control.specs.declared.operator.Operator.{Operator}
use Rattle.op_control.specs.declared.operator.OpState.TheVariants.{Created, Started, Canceled, Expired, Timeout}
use Rattle.op_control.specs.declared.turn.Dispatch.{Dispatch}
use Rattle.op_control.specs.declared.turn.Dispatch.TheVariants as dispatch
use Rattle.op_control.specs.Table.{active_at, Table}
use Rattle.op_control.specs.Turn.{conf_changes, passed_by}

-- the heartbeat leaves no step unfinished, from the current one on
abbrev pub LeavesNone : Operator → RegionBeat → Type 0
LeavesNone op beat = All (λ (step : Step). IsTrue (is_finished step beat)) (drop op.passed op.steps)

-- the heartbeat leaves a step
abbrev pub LeavesSome : Operator → RegionBeat → Type 0
LeavesSome op beat = drop (passed_by op beat) op.steps ≢ []

-- the first step that the heartbeat leaves unfinished
abbrev pub IsNextStep : Step → List Step → RegionBeat → Type 0
IsNextStep step [] beat = ⊥
IsNextStep step (one ∷ more) beat = (step ≡ one) × (is_finished one beat ≡ false)

-- conf_ver grew since the operator's epoch by more than the passed steps change it
abbrev pub Grew : Operator → RegionBeat → Type 0
Grew op beat = conf_changes (take (passed_by op beat) op.steps) < beat.region.epoch.conf_ver - op.epoch.conf_ver

-- it grew by no more
abbrev pub Kept : Operator → RegionBeat → Type 0
Kept op beat = beat.region.epoch.conf_ver - op.epoch.conf_ver ≤ conf_changes (take (passed_by op beat) op.steps)

-- a Created operator is no older than 3 seconds, and a Started one began at most 10 minutes ago
pub record IsInTime (op : Operator) (now : ℕ) : Type 0 where
  pub created : op.state ≡ Created → now - op.created ≤ EXPIRED_MS
  pub started : op.state ≡ Started → now - op.started ≤ TIMEOUT_MS

-- the gate holds the first step that the heartbeat leaves unfinished, for this reason
pub record IsHeld (held : Held) (op : Operator) (beat : RegionBeat) (stores : List StoreEntry) (now : ℕ) : Type 0 where
  pub step : Step
  pub next : IsNextStep step (drop (passed_by op beat) op.steps) beat
  pub gate : gate_of step beat stores now ≡ Err held

-- what each answer tells
abbrev pub Told : Operator → RegionBeat → List StoreEntry → ℕ → Dispatch → Type 0
Told op beat stores now dispatch.NoOperator = ⊥
Told op beat stores now (dispatch.Send step) = Kept op beat × IsInTime op now × IsNextStep step (drop (passed_by op beat) op.steps) beat × IsSafe step beat stores now
Told op beat stores now (dispatch.Wait held) = Kept op beat × IsInTime op now × IsHeld held op beat stores now
Told op beat stores now dispatch.Done = Kept op beat × LeavesNone op beat
Told op beat stores now (dispatch.Ended Canceled) = Grew op beat
Told op beat stores now (dispatch.Ended Expired) = Kept op beat × LeavesSome op beat × (op.state ≡ Created) × (EXPIRED_MS < now - op.created)
Told op beat stores now (dispatch.Ended Timeout) = Kept op beat × LeavesSome op beat × (op.state ≡ Started) × (TIMEOUT_MS < now - op.started)
Told op beat stores now (dispatch.Ended _) = ⊥

-- the same of the region's operator
abbrev pub Tells : Table → RegionBeat → List StoreEntry → ℕ → Dispatch → Type 0
Tells before beat stores now answer = (op : Operator) → active_at before beat.region.id ≡ Some op → Told op beat stores now answer
