-- When an operator is Started.
use Rattle.std.proofs.Common.{refl, ◌≡◌, ℕ, List, ap, ◌∙◌}
use Rattle.pd_types.specs.declared.region.RegionBeat.{RegionBeat}
use Rattle.pd_types.specs.declared.step.Step.{Step}
use Rattle.store_table.specs.declared.entry.StoreEntry.{StoreEntry}
use Rattle.op_control.specs.declared.operator.Operator.{Operator}
use Rattle.op_control.specs.declared.operator.OpState.TheVariants.{Created, Started}
use Rattle.op_control.specs.declared.turn.Dispatch.{Dispatch}
use Rattle.op_control.specs.declared.turn.Dispatch.TheVariants as dispatch
use Rattle.op_control.specs.Turn.{answer_of, start_in, started_after, turned}

first : (op : Operator) (answer : Dispatch) (step : Step) (now : ℕ) → answer ≡ dispatch.Send step → op.state ≡ Created → started_after op answer now ≡ now
first op answer step now is state = ap (λ a. started_after op a now) is ∙ ap (λ s. start_in s op.started now) state

pub begins : (op : Operator) (beat : RegionBeat) (stores : List StoreEntry) (now : ℕ) (step : Step) → op.state ≡ Created → answer_of op beat stores now ≡ dispatch.Send step → (turned op beat stores now).started ≡ now
begins op beat stores now step state is = first op (answer_of op beat stores now) step now is state

later : (op : Operator) (answer : Dispatch) (now : ℕ) → op.state ≡ Started → started_after op answer now ≡ op.started
later op dispatch.NoOperator now state = refl
later op (dispatch.Send step) now state = ap (λ s. start_in s op.started now) state
later op (dispatch.Wait held) now state = refl
later op dispatch.Done now state = refl
later op (dispatch.Ended end) now state = refl

pub keeps_its_start : (op : Operator) (beat : RegionBeat) (stores : List StoreEntry) (now : ℕ) → op.state ≡ Started → (turned op beat stores now).started ≡ op.started
keeps_its_start op beat stores now state = later op (answer_of op beat stores now) now state
