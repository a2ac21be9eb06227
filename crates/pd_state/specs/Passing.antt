-- Which steps of an operator a heartbeat passes over, in words (PD documentation, "Scheduling": an operator's steps are carried out one after another).
use Rattle.std.specs.Prelude.{◌≡◌, ℕ, ◌+◌, ⊤, true, false, List, [], ◌∷◌, ◌++◌, drop, length, All, Some}
use Rattle.std.specs.FinMap as map
use Rattle.pd_types.specs.declared.region.RegionBeat.{RegionBeat}
use Rattle.pd_types.specs.declared.step.Step.{Step}
use Rattle.store_table.specs.declared.entry.StoreEntry.{StoreEntry}
use Rattle.op_step.specs.Finished.{is_finished}
use Rattle.op_control.specs.declared.operator.Operator.{Operator}
use Rattle.op_control.specs.Table.{Table, dispatched}

-- the first of the steps, if any, isn't finished
abbrev pub IsUnfinished : RegionBeat → List Step → Type 0
IsUnfinished beat [] = ⊤
IsUnfinished beat (step ∷ steps) = is_finished step beat ≡ false

-- Of the steps that weren't passed before, the heartbeat shows these as finished, from the current one on, and not the one behind them: just these are passed too
-- then
pub record Passes (op next : Operator) (beat : RegionBeat) : Type 0 where
  pub done : List Step
  pub left : List Step
  pub steps : drop op.passed op.steps ≡ done ++ left
  pub finished : All (λ (step : Step). is_finished step beat ≡ true) done
  pub unfinished : IsUnfinished beat left
  pub passed : next.passed ≡ op.passed + length done

-- the region's operator, once this heartbeat was dispatched, passed these steps
pub record HasPassed (table : Table) (op : Operator) (beat : RegionBeat) (stores : List StoreEntry) (now : ℕ) : Type 0 where
  pub next : Operator
  pub last : map.get (dispatched table beat stores now).last beat.region.id ≡ Some next
  pub passes : Passes op next beat
