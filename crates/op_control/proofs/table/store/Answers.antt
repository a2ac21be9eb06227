use Rattle.std.proofs.Common.{◌≡◌, sym, Some, None}
use Rattle.std.specs.FinMap as map
use Rattle.op_control.specs.Table.{active_by}
use Rattle.op_control.proofs.TableLemmas.{joined-listed, kept-listed}
use Rattle.op_control.proofs.table.store.Goals as goal

pub returns-in-Some-clause-listed : goal.returns-in-Some-clause-listed
returns-in-Some-clause-listed c =
    let found : active_by (map.get c.args.last.now c.args.region) ≡ Some c.in-Some.field-0.now = sym c.in-Some.ensures in
    rw c.set.ensures.value (kept-listed c.args.last.now c.args.busy.now c.args.region c.in-Some.field-0.now c.args.op c.requires.listed found c.requires.fresh)

pub returns-in_ok-put_new-in-None-clause-listed : goal.returns-in_ok-put_new-in-None-clause-listed
returns-in_ok-put_new-in-None-clause-listed c =
    let none : active_by (map.get c.args.last.now c.args.region) ≡ None = sym c.in-None.ensures in
    rw (c.in_ok-put_new-in-None.ensures.last, c.in_ok-put_new-in-None.ensures.busy) (joined-listed c.args.last.now c.args.busy.now c.args.region c.args.op c.requires.listed none c.requires.fresh)
