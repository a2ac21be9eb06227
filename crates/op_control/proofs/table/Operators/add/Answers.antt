use Rattle.std.proofs.Common.{◌≡◌, sym, ap, ◌∙◌, Some}
use Rattle.std.specs.FinMap as map
use Rattle.id_map.proofs.Inserted.{same-insert}
use Rattle.op_control.specs.declared.operator.Operator.{Operator}
use Rattle.op_control.specs.Charging.{after_charges, first_refused}
use Rattle.op_control.proofs.AddLemmas.{accepted-limits}
use Rattle.op_control.proofs.table.Operators.add.Goals as goal

pub charge_stored-requires : goal.charge_stored-requires
charge_stored-requires c op found =
    let region = c.args.op.region in
    let stored : map.get c.store.new.last region ≡ Some c.created-new.result = ap (λ m. map.get m region) c.in_ok-store.ensures.last ∙ same-insert c.self.inside.last region c.created-new.result in
    let both : Some c.created-new.result ≡ Some op = sym stored ∙ found in
    let same : c.created-new.result ≡ op = cc in
    let steps : op.steps ≡ c.args.op.steps = ap (λ (o : Operator). o.steps) (sym same ∙ c.created-new.ensures) in
    ap (λ xs. first_refused xs c.args.limits.now c.args.now) steps ∙ accepted-limits _ c.args.op _ _ _ (sym c.refusal.ensures ∙ c.in_default.is)

pub returns-clause-charged : goal.returns-clause-charged
returns-clause-charged c =
    let region = c.args.op.region in
    let stored : map.get c.store.new.last region ≡ Some c.created-new.result = ap (λ m. map.get m region) c.in_ok-store.ensures.last ∙ same-insert c.self.inside.last region c.created-new.result in
    c.charge_stored.ensures c.created-new.result stored ∙ ap (λ (o : Operator). after_charges o.steps c.args.limits.now c.args.now) c.created-new.ensures
