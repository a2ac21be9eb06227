-- What an added operator is, and what a heartbeat passes of its steps.
use Rattle.std.proofs.Common.{refl, ◌≡◌, ◌≢◌, ℕ, suc, ◌+◌, Bool, true, false, cond, List, [], ◌∷◌, take, drop, ap, sym, ◌∙◌, subst, Some, All, IsTrue, arith}
use Rattle.std.specs.FinMap as map
use Rattle.std.proofs.lemmas.Bool.{ne_eqb}
use Rattle.std.proofs.lemmas.List.Elements.{All-nil, All-cons}
use Rattle.pd_types.specs.declared.region.RegionBeat.{RegionBeat}
use Rattle.pd_types.specs.declared.step.Step.{Step}
use Rattle.id_map.proofs.Inserted.{get-insert, same-insert}
use Rattle.store_table.specs.declared.entry.StoreEntry.{StoreEntry}
use Rattle.op_step.specs.Finished.{is_finished}
use Rattle.op_control.specs.declared.operator.NewOp.{NewOp}
use Rattle.op_control.specs.declared.operator.Operator.{Operator}
use Rattle.op_control.specs.Adding.{added, created}
use Rattle.op_control.specs.Table.{Table, active_at, active_by}
use Rattle.op_control.specs.Told.{IsNextStep}
use Rattle.op_control.specs.Turn.{finished_count, turned}
use Rattle.op_control.proofs.ToldLemmas.{is-next}

pub new_at : (table : Table) (op : NewOp) (now : ℕ) → active_at (added table op now) op.region ≡ Some (created op now)
new_at table op now = ap active_by (same-insert table.last op.region (created op now))

pub others_at : (table : Table) (op : NewOp) (now region : ℕ) → region ≢ op.region → active_at (added table op now) region ≡ active_at table region
others_at table op now region apart =
    ap active_by (get-insert table.last op.region (created op now) region ∙ ap (λ (b : Bool). cond b (Some (created op now)) (map.get table.last region)) (ne_eqb region op.region apart))

done_more : (beat : RegionBeat) (one : Step) (more : List Step) (b : Bool) → is_finished one beat ≡ b → All (λ (step : Step). IsTrue (is_finished step beat)) (take (finished_count beat more) more)
    → All (λ (step : Step). IsTrue (is_finished step beat)) (take (cond b (finished_count beat more + 1) 0) (one ∷ more))
done_more beat one more false is rest = All-nil (λ (step : Step). IsTrue (is_finished step beat))
done_more beat one more true is rest =
    let next : finished_count beat more + 1 ≡ suc (finished_count beat more) = omega arith in
    subst (λ (k : ℕ). All (λ (step : Step). IsTrue (is_finished step beat)) (take k (one ∷ more))) (sym next)
    (All-cons (λ (step : Step). IsTrue (is_finished step beat)) one (take (finished_count beat more) more) is rest)

done_first : (beat : RegionBeat) (steps : List Step) → All (λ (step : Step). IsTrue (is_finished step beat)) (take (finished_count beat steps) steps)
done_first beat [] = All-nil (λ (step : Step). IsTrue (is_finished step beat))
done_first beat (one ∷ more) = done_more beat one more (is_finished one beat) refl (done_first beat more)

pub passes_more : (op : Operator) (beat : RegionBeat) (stores : List StoreEntry) (now : ℕ)
    → (count : ℕ) × ((turned op beat stores now).passed ≡ op.passed + count) × All (λ (step : Step). IsTrue (is_finished step beat)) (take count (drop op.passed op.steps))
passes_more op beat stores now = (finished_count beat (drop op.passed op.steps), refl, done_first beat (drop op.passed op.steps))

pub stands_at : (op : Operator) (beat : RegionBeat) (stores : List StoreEntry) (now : ℕ) (step : Step) (more : List Step) → drop (turned op beat stores now).passed op.steps ≡ step ∷ more → is_finished step beat ≡ false
stands_at op beat stores now step more here = (subst (λ (left : List Step). IsNextStep step left beat) here (is-next op beat step more here)).1
