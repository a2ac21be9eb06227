use Rattle.std.proofs.Common.{sym}
use Rattle.pd_run.proofs.Hearing.{made_alone}
use Rattle.pd_run.proofs.driving.call.Goals as goal

pub returns-in-None-clause-ok : goal.returns-in-None-clause-ok
returns-in-None-clause-ok g c =
    made_alone {B = g.row.B.Denot} g.B.Seated.seats c.args.number c.args.request c.args.share.now c.call-in-None.new.share c.args.bench.now _ _ c.call-in-None.result (sym c.in-None.is) c.empty-none.ensures.list c.empty-none.ensures.next c.empty-none.ensures.last c.empty-none.ensures.said c.call-in-None.ensures.ok
