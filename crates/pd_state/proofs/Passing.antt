-- The steps that a heartbeat passes over are those that it shows as finished.
use Rattle.std.proofs.Common.{refl, ◌≡◌, ℕ, ◌+◌, Bool, true, false, cond, List, [], ◌∷◌, ◌++◌, drop, length, ap, ◌∙◌, Option, Some, arith}
use Rattle.std.proofs.lemmas.List.Elements.{All-cons, All-nil}
use Rattle.std.specs.FinMap as map
use Rattle.std.specs.List.{All}
use Rattle.pd_types.specs.declared.region.RegionBeat.{RegionBeat}
use Rattle.pd_types.specs.declared.step.Step.{Step}
use Rattle.id_map.proofs.Inserted.{same-insert}
use Rattle.store_table.specs.declared.entry.StoreEntry.{StoreEntry}
use Rattle.op_step.specs.Finished.{is_finished}
use Rattle.op_control.specs.declared.operator.Operator.{Operator}
use Rattle.op_control.specs.Table.{Table, active_at, turned_by}
use Rattle.op_control.specs.Turn.{finished_count, turned}
use Rattle.pd_state.specs.Passing.{HasPassed, IsUnfinished, Passes}

-- steps in two parts: those that are finished, and the others from the first one on that isn't
record Splits (beat : RegionBeat) (steps : List Step) : Type 0 where
  done : List Step
  left : List Step
  steps_are : steps ≡ done ++ left
  finished : All (λ (step : Step). is_finished step beat ≡ true) done
  unfinished : IsUnfinished beat left
  count : finished_count beat steps ≡ length done

splits_more : (beat : RegionBeat) (step : Step) (steps : List Step) (b : Bool) → is_finished step beat ≡ b → Splits beat steps → Splits beat (step ∷ steps)
splits_more beat step steps true is s = record {
  done = step ∷ s.done;
  left = s.left;
  steps_are = ap (λ (l : List Step). step ∷ l) s.steps_are;
  finished = All-cons (λ (one : Step). is_finished one beat ≡ true) step s.done is s.finished;
  unfinished = s.unfinished;
  count = ap (λ (t : Bool). cond t (finished_count beat steps + 1) 0) is ∙ (let n = s.count in omega (arith, n));
}
splits_more beat step steps false is s = record {
  done = [];
  left = step ∷ steps;
  steps_are = refl;
  finished = All-nil (λ (one : Step). is_finished one beat ≡ true);
  unfinished = is;
  count = ap (λ (t : Bool). cond t (finished_count beat steps + 1) 0) is;
}

splits : (beat : RegionBeat) (steps : List Step) → Splits beat steps
splits beat [] = record { done = []; left = []; steps_are = refl; finished = All-nil (λ (one : Step). is_finished one beat ≡ true); unfinished = tt; count = refl }
splits beat (step ∷ steps) = splits_more beat step steps (is_finished step beat) refl (splits beat steps)

passes_by : (op : Operator) (beat : RegionBeat) (stores : List StoreEntry) (now : ℕ) → Splits beat (drop op.passed op.steps) → Passes op (turned op beat stores now) beat
passes_by op beat stores now s = record { done = s.done; left = s.left; steps = s.steps_are; finished = s.finished; unfinished = s.unfinished; passed = ap (λ (n : ℕ). op.passed + n) s.count }

pub has_passed : (table : Table) (op : Operator) (beat : RegionBeat) (stores : List StoreEntry) (now : ℕ) → active_at table beat.region.id ≡ Some op → HasPassed table op beat stores now
has_passed table op beat stores now is = record {
  next = turned op beat stores now;
  last = ap (λ (o : Option Operator). map.get (turned_by o table beat stores now).last beat.region.id) is ∙ same-insert table.last beat.region.id (turned op beat stores now);
  passes = passes_by op beat stores now (splits beat (drop op.passed op.steps));
}
