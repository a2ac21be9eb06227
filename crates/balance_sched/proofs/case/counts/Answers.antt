use Rattle.std.proofs.Common.{◌∙◌}
use Rattle.balance_sched.proofs.SearchLemmas.{counted_more}
use Rattle.balance_sched.proofs.case.counts.Goals as goal

pub loop-place-preserved : goal.loop-place-preserved
loop-place-preserved c =
    c.in_ok-push.ensures.items ∙ counted_more c.args.on.kind c.args.on.stores.now c.args.on.standing.now c.loop-place.place c.count.result c.loop-place.counts.items c.in-Some.store.now c.in-Some.ensures.value c.count.ensures c.loop-place.invariant
