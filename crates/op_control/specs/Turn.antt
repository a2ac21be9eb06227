-- What a heartbeat of its region makes of an operator (PD documentation, "Scheduling": operators and their steps).
use Rattle.std.specs.Prelude.{ℕ, ◌+◌, ◌-◌, nat_lt, Bool, true, false, List, [], ◌∷◌, take, drop, if◌then◌else◌, Option, Some, None, Result, Ok, Err}
use Rattle.pd_types.specs.declared.region.RegionBeat.{RegionBeat}
use Rattle.pd_types.specs.declared.step.Step.{Step}
use Rattle.store_table.specs.declared.entry.StoreEntry.{StoreEntry}
use Rattle.op_step.specs.declared.safety.Held.{Held}
use Rattle.op_step.specs.After.{conf_change}
use Rattle.op_step.specs.Finished.{is_finished}
use Rattle.op_step.specs.Safe.{gate_of}
use Rattle.op_control.specs.declared.operator.TheConstants.{EXPIRED_MS, TIMEOUT_MS}
use Rattle.op_control.specs.declared.operator.Operator.{Operator}
use Rattle.op_control.specs.declared.operator.OpState.{OpState}
use Rattle.op_control.specs.declared.operator.OpState.TheVariants.{Created, Started, Success, Canceled, Expired, Timeout}
use Rattle.op_control.specs.declared.turn.Dispatch.{Dispatch}
use Rattle.op_control.specs.declared.turn.Dispatch.TheVariants as dispatch
use Rattle.op_control.specs.Life.{lives, FirstSend, NoStepLeft, ConfVerGrew, TooLate}

-- how many steps from the first on the heartbeat shows as finished
abbrev pub finished_count : RegionBeat → List Step → ℕ
finished_count beat [] = 0
finished_count beat (step ∷ steps) = if is_finished step beat then finished_count beat steps + 1 else 0

-- by how much these steps raise conf_ver
abbrev pub conf_changes : List Step → ℕ
conf_changes [] = 0
conf_changes (step ∷ steps) = conf_change step + conf_changes steps

-- how many steps are passed: from the current one on, those that are finished
abbrev pub passed_by : Operator → RegionBeat → ℕ
passed_by op beat = op.passed + finished_count beat (drop op.passed op.steps)

-- a Created operator is late more than 3 seconds after its creation, a Started one more than 10 minutes after its start
abbrev pub late_in : OpState → Operator → ℕ → Option OpState
late_in Created op now = if nat_lt EXPIRED_MS (now - op.created) then Some Expired else None
late_in Started op now = if nat_lt TIMEOUT_MS (now - op.started) then Some Timeout else None
late_in _ op now = None

-- the step is sent where the gate lets it through
abbrev pub sent_by : Step → Result (Unit {0}) Held → Dispatch
sent_by step (Ok _) = dispatch.Send step
sent_by step (Err held) = dispatch.Wait held

-- the end of a late operator, else the answer
abbrev pub unless_late : Option OpState → Dispatch → Dispatch
unless_late (Some state) sent = dispatch.Ended state
unless_late None sent = sent

-- no step is left; or it is late; or the gate says whether the step is sent
abbrev pub with_left : List Step → Operator → RegionBeat → List StoreEntry → ℕ → Dispatch
with_left [] op beat stores now = dispatch.Done
with_left (step ∷ steps) op beat stores now = unless_late (late_in op.state op now) (sent_by step (gate_of step beat stores now))

-- conf_ver has grown since the operator's epoch by more than the passed steps change it
abbrev pub is_astray : ℕ → Operator → RegionBeat → Bool
is_astray passed op beat = nat_lt (conf_changes (take passed op.steps)) (beat.region.epoch.conf_ver - op.epoch.conf_ver)

-- the answer where so many steps are passed
abbrev pub answer_at : ℕ → Operator → RegionBeat → List StoreEntry → ℕ → Dispatch
answer_at passed op beat stores now =
    if is_astray passed op beat then dispatch.Ended Canceled else with_left (drop passed op.steps) op beat stores now

-- the answer to the heartbeat
abbrev pub answer_of : Operator → RegionBeat → List StoreEntry → ℕ → Dispatch
answer_of op beat stores now = answer_at (passed_by op beat) op beat stores now

-- the state that an answer leaves
abbrev pub state_after : OpState → Dispatch → OpState
state_after state dispatch.NoOperator = state
state_after state (dispatch.Send step) = Started
state_after state (dispatch.Wait held) = state
state_after state dispatch.Done = Success
state_after state (dispatch.Ended end) = end

-- the first Send is the start
abbrev pub start_in : OpState → ℕ → ℕ → ℕ
start_in Created started now = now
start_in _ started now = started

-- the moment of its start after the answer
abbrev pub started_after : Operator → Dispatch → ℕ → ℕ
started_after op (dispatch.Send step) now = start_in op.state op.started now
started_after op _ now = op.started

-- the operator after the heartbeat
abbrev pub turned : Operator → RegionBeat → List StoreEntry → ℕ → Operator
turned op beat stores now = record op {
  passed = passed_by op beat;
  state = state_after op.state (answer_of op beat stores now);
  started = started_after op (answer_of op beat stores now) now;
}

-- a Started operator whose step is sent again
abbrev pub stays_started : OpState → OpState → Bool
stays_started Started Started = true
stays_started _ _ = false

-- an operator whose step is held
abbrev pub stays_active : OpState → OpState → Bool
stays_active Created Created = true
stays_active Started Started = true
stays_active _ _ = false

-- an answer moves an operator from a state to another by the table of its life, or leaves it there
abbrev pub moves : OpState → OpState → Dispatch → Bool
moves from to dispatch.NoOperator = false
moves from to (dispatch.Send step) = if stays_started from to then true else lives from to FirstSend
moves from to (dispatch.Wait held) = stays_active from to
moves from to dispatch.Done = lives from to NoStepLeft
moves from to (dispatch.Ended Canceled) = lives from to ConfVerGrew
moves from to (dispatch.Ended _) = lives from to TooLate
