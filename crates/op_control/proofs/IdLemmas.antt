-- An id in the place of a new peer's changes no refusal.
use Rattle.std.proofs.Common.{◌≡◌, ℕ, List, [], ◌∷◌, map, refl, ap, ◌∙◌, Option, Some, None}
use Rattle.pd_types.specs.declared.region.RegionBeat.{RegionBeat}
use Rattle.pd_types.specs.declared.step.Step.{Step}
use Rattle.pd_types.specs.declared.step.Step.TheVariants as steps
use Rattle.std.specs.Option.{option_or}
use Rattle.store_limit.specs.Limits.{StoreLimits}
use Rattle.op_step.specs.Wishes.{step_with}
use Rattle.op_control.specs.declared.operator.NewOp.{NewOp}
use Rattle.op_control.specs.declared.operator.Operator.{Operator}
use Rattle.op_control.specs.Table.{Table, active_at}
use Rattle.op_control.specs.Charging.{charge_of, charged_by, first_refused, refused_by}
use Rattle.op_control.specs.Adding.{priority_refusal, refusal_of, with_new_id}

same-charge : (id : ℕ) (step : Step) → charge_of (step_with id step) ≡ charge_of step
same-charge id (steps.AddLearner peer store) = refl
same-charge id (steps.PromoteLearner peer store) = refl
same-charge id (steps.TransferLeader peer store) = refl
same-charge id (steps.RemovePeer peer store) = refl

pub same-refused : (id : ℕ) (list : List Step) (limits : StoreLimits) (now : ℕ) → first_refused (map (step_with id) list) limits now ≡ first_refused list limits now
same-refused id [] limits now = refl
same-refused id (step ∷ more) limits now =
    ap (λ charge. option_or (refused_by charge limits now) (first_refused (map (step_with id) more) (charged_by charge limits now) now)) (same-charge id step)
    ∙ ap (option_or (refused_by (charge_of step) limits now)) (same-refused id more (charged_by (charge_of step) limits now) now)

same-priority : (active : Option Operator) (op : NewOp) (id : ℕ) → priority_refusal active (with_new_id op id) ≡ priority_refusal active op
same-priority None op id = refl
same-priority (Some active) op id = refl

pub same_refusal : (table : Table) (op : NewOp) (id : ℕ) (kept : Option RegionBeat) (limits : StoreLimits) (now : ℕ) → refusal_of table (with_new_id op id) kept limits now ≡ refusal_of table op kept limits now
same_refusal table op id None limits now = refl
same_refusal table op id (Some beat) limits now = rw (same-refused id op.steps limits now, same-priority (active_at table op.region) op id) refl
