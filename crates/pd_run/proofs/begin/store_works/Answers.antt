use Rattle.std.proofs.Common.{refl}
use Rattle.std.specs.Vec.Iter.{into_iter_items}
use Rattle.pd_run.specs.Pipes.{BeginsStore}
use Rattle.pd_run.proofs.Lists.{beside_more}
use Rattle.pd_run.proofs.begin.store_works.Goals as goal

pub loop-lines-preserved : goal.loop-lines-preserved
loop-lines-preserved g c =
    beside_more (BeginsStore {N = g.row.N.Denot}) (into_iter_items c.into_iter-lines-iterator.result) (into_iter_items c.loop-lines.lines-iterator) (into_iter_items c.next.new.self) c.loop-lines.works.items _ c.in-Some.lines _
    c.loop-lines.invariant c.in-Some.ensures.steps.0 c.in_ok-push.ensures.items (record { store = refl; lines_are = refl; ports = c.new.ensures.items; answers = c.new-in-loop-lines.ensures.items; fine = refl })
