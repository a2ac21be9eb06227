use Rattle.std.proofs.Common.{◌≡◌, sym, Some, refl}
use Rattle.std.specs.FinMap as map
use Rattle.op_control.specs.declared.operator.OpState.TheVariants.{Canceled}
use Rattle.op_control.specs.Table.{active_by}
use Rattle.op_control.specs.Written.{progressed}
use Rattle.op_control.specs.Life.{Lives, Removed}
use Rattle.op_control.proofs.ChangeLemmas.{active-state, written-goes}
use Rattle.op_control.proofs.LifeLemmas.{removed-by}
use Rattle.op_control.proofs.TableLemmas.{active-last, dropped-listed}
use Rattle.op_control.proofs.table.Operators.remove.Goals as goal

pub invariant_of-self : goal.invariant_of-self
invariant_of-self c =
    let found : active_by (map.get c.self.inside.last c.args.region) ≡ Some c.in-Some.op.now = sym c.in-Some.ensures in
    let written = c.write.ensures c.in-Some.op.now (active-last _ _ found) in
    let op = progressed c.in-Some.op.now.passed Canceled c.in-Some.op.now.started c.in-Some.op.now in
    rw (written, c.unlist.ensures) (dropped-listed c.self.inside.last c.self.inside.busy c.args.region op c.self.invariant refl)

pub returns-clause-life : goal.returns-clause-life
returns-clause-life c =
    let was : active_by (map.get c.self.inside.last c.args.region) ≡ Some c.in-Some.op.now = sym c.in-Some.ensures in
    let written = c.write.ensures c.in-Some.op.now (active-last _ _ was) in
    rw (← c.self.view_is) (written-goes (λ from to. Lives from to Removed) (record { last = c.self.inside.last; busy = c.self.inside.busy }) _ c.args.region c.in-Some.op.now (progressed c.in-Some.op.now.passed Canceled c.in-Some.op.now.started c.in-Some.op.now) was written (removed-by c.in-Some.op.now.state (active-state _ c.in-Some.op.now was)))
