use Rattle.std.proofs.Common.{arith}
use Rattle.meta_store.proofs.Stored.{one_put}
use Rattle.meta_store.proofs.store.put_labels.Goals as goal

pub loop-place-preserved : goal.loop-place-preserved
loop-place-preserved c =
    one_put c.args.text.now.items c.loop-place.text.items c.put_next.new.text.items c.args.labels.now c.loop-place.place c.index-labels-place.result
    (omega (arith, c.loop-place-test.true)) c.loop-place.invariant c.index-labels-place.is c.in_ok-put_next.ensures.first c.in_ok-put_next.ensures.next
