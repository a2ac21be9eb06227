use Rattle.std.proofs.Common.{◌≡◌, sym, IsTrue, Some}
use Rattle.std.specs.FinMap as map
use Rattle.op_control.specs.Table.{active_by}
use Rattle.op_control.specs.Written.{progressed}
use Rattle.op_control.specs.Turn.{moves}
use Rattle.op_control.proofs.ChangeLemmas.{active-state, written-goes}
use Rattle.op_control.proofs.LifeLemmas.{moved-turned}
use Rattle.op_control.proofs.SendLemmas.{answer-safe}
use Rattle.op_control.proofs.ToldLemmas.{told-of}
use Rattle.op_control.proofs.TableLemmas.{active-last, dropped-listed, kept-listed}
use Rattle.op_control.proofs.table.Operators.dispatch.Goals as goal

pub invariant_of-self : goal.invariant_of-self
invariant_of-self c =
    let region = c.args.beat.now.region.id in
    let found : active_by (map.get c.self.inside.last region) ≡ Some c.in-Some.op.now = sym c.in-Some.ensures in
    let written = c.write.ensures c.in-Some.op.now (active-last _ _ found) in
    let op = progressed c.advance-answer.result.0.passed c.advance-answer.result.0.state c.advance-answer.result.0.started c.in-Some.op.now in
    rw (written, c.unlist.ensures) (dropped-listed c.self.inside.last c.self.inside.busy region op c.self.invariant (sym c.if-not-is_active.ensures))

pub invariant_of-self-else-not-is_active : goal.invariant_of-self-else-not-is_active
invariant_of-self-else-not-is_active c =
    let region = c.args.beat.now.region.id in
    let found : active_by (map.get c.self.inside.last region) ≡ Some c.in-Some.op.now = sym c.in-Some.ensures in
    let written = c.write.ensures c.in-Some.op.now (active-last _ _ found) in
    let op = progressed c.advance-answer.result.0.passed c.advance-answer.result.0.state c.advance-answer.result.0.started c.in-Some.op.now in
    rw written (kept-listed c.self.inside.last c.self.inside.busy region c.in-Some.op.now op c.self.invariant found (sym c.if-not-is_active.ensures))

pub returns-then-not-is_active-clause-life : goal.returns-then-not-is_active-clause-life
returns-then-not-is_active-clause-life c =
    let found : active_by (map.get c.self.inside.last c.args.beat.now.region.id) ≡ Some c.in-Some.op.now = sym c.in-Some.ensures in
    let written = c.write.ensures c.in-Some.op.now (active-last _ _ found) in
    let op = progressed c.advance-answer.result.0.passed c.advance-answer.result.0.state c.advance-answer.result.0.started c.in-Some.op.now in
    let moved = moved-turned c.in-Some.op.now c.args.beat.now c.args.stores.now c.args.now (active-state _ c.in-Some.op.now found) in
    rw (← c.self.view_is) (written-goes (λ from to. IsTrue (moves from to c.advance-answer.result.1)) (record { last = c.self.inside.last; busy = c.self.inside.busy }) _ c.args.beat.now.region.id c.in-Some.op.now op found written (rw (c.advance-answer.ensures.state, c.advance-answer.ensures.answer) moved))

pub returns-else-not-is_active-clause-life : goal.returns-else-not-is_active-clause-life
returns-else-not-is_active-clause-life c =
    let found : active_by (map.get c.self.inside.last c.args.beat.now.region.id) ≡ Some c.in-Some.op.now = sym c.in-Some.ensures in
    let written = c.write.ensures c.in-Some.op.now (active-last _ _ found) in
    let op = progressed c.advance-answer.result.0.passed c.advance-answer.result.0.state c.advance-answer.result.0.started c.in-Some.op.now in
    let moved = moved-turned c.in-Some.op.now c.args.beat.now c.args.stores.now c.args.now (active-state _ c.in-Some.op.now found) in
    rw (← c.self.view_is) (written-goes (λ from to. IsTrue (moves from to c.advance-answer.result.1)) (record { last = c.self.inside.last; busy = c.self.inside.busy }) _ c.args.beat.now.region.id c.in-Some.op.now op found written (rw (c.advance-answer.ensures.state, c.advance-answer.ensures.answer) moved))

pub returns-else-not-is_active-clause-safe : goal.returns-else-not-is_active-clause-safe
returns-else-not-is_active-clause-safe c =
    rw c.advance-answer.ensures.answer (answer-safe c.in-Some.op.now c.args.beat.now c.args.stores.now c.args.now)

pub returns-then-not-is_active-clause-tells : goal.returns-then-not-is_active-clause-tells
returns-then-not-is_active-clause-tells c =
    let region = c.args.beat.now.region.id in
    let held : active_by (map.get c.self.inside.last region) ≡ Some c.in-Some.op.now = sym c.in-Some.ensures in
    rw (← c.self.view_is) (told-of (map.get c.self.inside.last region) c.in-Some.op.now c.args.beat.now c.args.stores.now c.args.now c.advance-answer.result.1 held c.advance-answer.ensures.answer)

pub returns-else-not-is_active-clause-tells : goal.returns-else-not-is_active-clause-tells
returns-else-not-is_active-clause-tells c =
    let region = c.args.beat.now.region.id in
    let held : active_by (map.get c.self.inside.last region) ≡ Some c.in-Some.op.now = sym c.in-Some.ensures in
    rw (← c.self.view_is) (told-of (map.get c.self.inside.last region) c.in-Some.op.now c.args.beat.now c.args.stores.now c.args.now c.advance-answer.result.1 held c.advance-answer.ensures.answer)
