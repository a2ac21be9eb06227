-- Each call changes an operator's state by the table of its life.
use Rattle.std.proofs.Common.{◌≡◌, ℕ, Bool, true, false, cond, refl, sym, ap, subst, ◌∙◌, IsTrue, Option, Some, None, is_some}
use Rattle.std.proofs.lemmas.Bool.{false≢true}
use Rattle.std.specs.Option.{option_map}
use Rattle.std.specs.Ordering.{nat_cmp}
use Rattle.std.specs.FinMap as map
use Rattle.id_map.proofs.Inserted.{same-insert}
use Rattle.op_control.specs.declared.operator.Operator.{Operator}
use Rattle.op_control.specs.declared.operator.OpState.{OpState}
use Rattle.op_control.specs.declared.operator.OpState.TheVariants.{Canceled}
use Rattle.op_control.specs.Changes.{LivesOn}
use Rattle.op_control.specs.Life.{is_active, RegionLeft}
use Rattle.op_control.specs.Table.{active_at, active_by, cancel, canceled, Table}
use Rattle.op_control.proofs.LifeLemmas.{gone-by}

only-state : (b : Bool) (op found : Operator) → is_active op.state ≡ b → cond b (Some op) None ≡ Some found → IsTrue (is_active found.state)
only-state true op found is e = let same : op ≡ found = cc in subst (λ (o : Operator). IsTrue (is_active o.state)) same is
only-state false op found is e = absurd (false≢true (ap is_some e))

pub active-state : (o : Option Operator) (found : Operator) → active_by o ≡ Some found → IsTrue (is_active found.state)
active-state None found e = absurd (false≢true (ap is_some e))
active-state (Some op) found e = only-state (is_active op.state) op found refl e

-- once another operator is written in the place of the region's, its state is that one's
pub written-goes : (P : OpState → OpState → Type 0) (before : Table) (last : map.FinMap nat_cmp Operator) (region : ℕ) (found new : Operator) → active_at before region ≡ Some found → last ≡ map.insert before.last region new → P found.state new.state
    → (op : Operator) → active_at before region ≡ Some op → (to : OpState) × (option_map (λ (o : Operator). o.state) (map.get last region) ≡ Some to) × P op.state to
written-goes P before last region found new was written goes op is =
    let both : Some found ≡ Some op = sym was ∙ is in
    let same : found ≡ op = cc in (
      new.state,
      ap (λ m. option_map (λ (o : Operator). o.state) (map.get m region)) written ∙ ap (option_map (λ (o : Operator). o.state)) (same-insert before.last region new),
      subst (λ (o : Operator). P o.state new.state) same goes,
    )

pub gone-lives : (table : Table) (region : ℕ) → LivesOn table (canceled table region) region RegionLeft
gone-lives table region op found =
    (Canceled, rw found (ap (option_map (λ (o : Operator). o.state)) (same-insert table.last region (cancel op))), gone-by op.state (active-state _ op found))
