-- What each call leaves of a region's operator: its state changes by the table of its life alone, and what is sent is safe.
use Rattle.std.specs.Prelude.{◌≡◌, ℕ, ◌<◌, List, Some, IsTrue, ⊤}
use Rattle.pd_types.specs.declared.region.RegionBeat.{RegionBeat}
use Rattle.store_table.specs.declared.entry.StoreEntry.{StoreEntry}
use Rattle.op_step.specs.Safe.{IsSafe}
use Rattle.op_control.specs.declared.operator.NewOp.{NewOp}
use Rattle.op_control.specs.declared.operator.Operator.{Operator}
use Rattle.op_control.specs.declared.operator.OpState.{OpState}
use Rattle.op_control.specs.declared.operator.OpState.TheVariants.{Replaced}
use Rattle.op_control.specs.declared.turn.Dispatch.{Dispatch}
use Rattle.op_control.specs.declared.turn.Dispatch.TheVariants as dispatch
use Rattle.op_control.specs.Life.{HigherPriority, Lives, Where}
use Rattle.op_control.specs.Table.{active_at, state_of, Table}
use Rattle.op_control.specs.Turn.{moves}

-- the region's operator, where it hadn't ended, is afterwards in a state to which the table lets it go there
abbrev pub LivesOn : Table → Table → ℕ → Where → Type 0
LivesOn before after region at =
    (op : Operator) → active_at before region ≡ Some op → (to : OpState) × (state_of after region ≡ Some to) × Lives op.state to at

-- the same at a heartbeat, by the line of the table that its answer names; a step that is held or sent again leaves the state
abbrev pub LivesBy : Table → Table → ℕ → Dispatch → Type 0
LivesBy before after region answer =
    (op : Operator) → active_at before region ≡ Some op → (to : OpState) × (state_of after region ≡ Some to) × IsTrue (moves op.state to answer)

-- the region's operator, where it hadn't ended, goes to Replaced by the table, and the new one's priority is higher
abbrev pub Replaces : Table → NewOp → Type 0
Replaces before op = (old : Operator) → active_at before op.region ≡ Some old → Lives old.state Replaced HigherPriority × (old.priority < op.priority)

-- what the answer sends is a safe step: a majority of the region's voters is live before it and after it
abbrev pub SendsSafe : Dispatch → RegionBeat → List StoreEntry → ℕ → Type 0
SendsSafe (dispatch.Send step) beat stores now = IsSafe step beat stores now
SendsSafe _ beat stores now = ⊤
