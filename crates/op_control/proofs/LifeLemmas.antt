-- Each change of an operator's state is one of the table of its life.
use Rattle.std.proofs.Common.{ℕ, Bool, true, false, cond, List, [], ◌∷◌, drop, IsTrue, refl, Some, None, Result, Ok, Err}
use Rattle.std.proofs.lemmas.Bool.{false≢true}
use Rattle.pd_types.specs.declared.region.RegionBeat.{RegionBeat}
use Rattle.pd_types.specs.declared.step.Step.{Step}
use Rattle.store_table.specs.declared.entry.StoreEntry.{StoreEntry}
use Rattle.op_step.specs.declared.safety.Held.{Held}
use Rattle.op_step.specs.Safe.{gate_of}
use Rattle.op_control.specs.declared.operator.Operator.{Operator}
use Rattle.op_control.specs.declared.operator.OpState.{OpState}
use Rattle.op_control.specs.declared.operator.OpState.TheVariants.{Created, Started, Success, Canceled, Replaced, Expired, Timeout}
use Rattle.op_control.specs.declared.turn.Dispatch.{Dispatch}
use Rattle.op_control.specs.declared.turn.Dispatch.TheVariants as dispatch
use Rattle.op_control.specs.Life.{is_active, Lives, RegionLeft, Removed}
use Rattle.op_control.specs.Turn.{answer_of, is_astray, late_in, moves, passed_by, sent_by, state_after, turned, unless_late, with_left}

-- the answer moves an operator in that state by the table
abbrev Moved : OpState → Dispatch → Type 0
Moved state answer = IsTrue (moves state (state_after state answer) answer)

moved-sent : (state : OpState) → IsTrue (is_active state) → (step : Step) (gate : Result (Unit {0}) Held) → Moved state (sent_by step gate)
moved-sent Created active step (Ok sent) = refl
moved-sent Created active step (Err held) = refl
moved-sent Started active step (Ok sent) = refl
moved-sent Started active step (Err held) = refl
moved-sent Success active step gate = absurd (false≢true active)
moved-sent Canceled active step gate = absurd (false≢true active)
moved-sent Replaced active step gate = absurd (false≢true active)
moved-sent Expired active step gate = absurd (false≢true active)
moved-sent Timeout active step gate = absurd (false≢true active)

expired : (late : Bool) (answer : Dispatch) → Moved Created answer → Moved Created (unless_late (cond late (Some Expired) None) answer)
expired true answer moved = refl
expired false answer moved = moved

timed-out : (late : Bool) (answer : Dispatch) → Moved Started answer → Moved Started (unless_late (cond late (Some Timeout) None) answer)
timed-out true answer moved = refl
timed-out false answer moved = moved

moved-late : (state : OpState) → IsTrue (is_active state) → (op : Operator) (now : ℕ) (answer : Dispatch) → Moved state answer → Moved state (unless_late (late_in state op now) answer)
moved-late Created active op now answer moved = expired _ answer moved
moved-late Started active op now answer moved = timed-out _ answer moved
moved-late Success active op now answer moved = absurd (false≢true active)
moved-late Canceled active op now answer moved = absurd (false≢true active)
moved-late Replaced active op now answer moved = absurd (false≢true active)
moved-late Expired active op now answer moved = absurd (false≢true active)
moved-late Timeout active op now answer moved = absurd (false≢true active)

moved-done : (state : OpState) → IsTrue (is_active state) → Moved state dispatch.Done
moved-done Created active = refl
moved-done Started active = refl
moved-done Success active = absurd (false≢true active)
moved-done Canceled active = absurd (false≢true active)
moved-done Replaced active = absurd (false≢true active)
moved-done Expired active = absurd (false≢true active)
moved-done Timeout active = absurd (false≢true active)

moved-astray : (state : OpState) → IsTrue (is_active state) → (astray : Bool) (answer : Dispatch) → Moved state answer → Moved state (cond astray (dispatch.Ended Canceled) answer)
moved-astray state active false answer moved = moved
moved-astray Created active true answer moved = refl
moved-astray Started active true answer moved = refl
moved-astray Success active true answer moved = absurd (false≢true active)
moved-astray Canceled active true answer moved = absurd (false≢true active)
moved-astray Replaced active true answer moved = absurd (false≢true active)
moved-astray Expired active true answer moved = absurd (false≢true active)
moved-astray Timeout active true answer moved = absurd (false≢true active)

moved-left : (steps : List Step) (op : Operator) (beat : RegionBeat) (stores : List StoreEntry) (now : ℕ) → IsTrue (is_active op.state) → Moved op.state (with_left steps op beat stores now)
moved-left [] op beat stores now active = moved-done op.state active
moved-left (step ∷ more) op beat stores now active = moved-late op.state active op now _ (moved-sent op.state active step (gate_of step beat stores now))

pub moved-turned : (op : Operator) (beat : RegionBeat) (stores : List StoreEntry) (now : ℕ) → IsTrue (is_active op.state) → IsTrue (moves op.state (turned op beat stores now).state (answer_of op beat stores now))
moved-turned op beat stores now active =
    moved-astray op.state active (is_astray (passed_by op beat) op beat) _ (moved-left (drop (passed_by op beat) op.steps) op beat stores now active)

pub removed-by : (state : OpState) → IsTrue (is_active state) → Lives state Canceled Removed
removed-by Created active = refl
removed-by Started active = refl
removed-by Success active = absurd (false≢true active)
removed-by Canceled active = absurd (false≢true active)
removed-by Replaced active = absurd (false≢true active)
removed-by Expired active = absurd (false≢true active)
removed-by Timeout active = absurd (false≢true active)

pub gone-by : (state : OpState) → IsTrue (is_active state) → Lives state Canceled RegionLeft
gone-by Created active = refl
gone-by Started active = refl
gone-by Success active = absurd (false≢true active)
gone-by Canceled active = absurd (false≢true active)
gone-by Replaced active = absurd (false≢true active)
gone-by Expired active = absurd (false≢true active)
gone-by Timeout active = absurd (false≢true active)
