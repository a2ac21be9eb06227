use Rattle.std.proofs.Common.{arith}
use Rattle.balance_sched.specs.Tables.{tables_of}
use Rattle.balance_sched.proofs.SearchLemmas.{least_of_all, least_more}
use Rattle.balance_sched.proofs.case.least.Goals as goal

pub loop-place-preserved : goal.loop-place-preserved
loop-place-preserved c = least_more c.args.on.kind (tables_of c.args.on.stores.now c.args.on.standing.now c.args.on.rules.now c.args.on.busy.now c.args.on.now) c.loop-place.place c.loop-place.least c.lesser-least.result c.lesser-least.ensures.below c.lesser-least.ensures.here c.loop-place.invariant

pub returns : goal.returns
returns c = least_of_all c.args.on.kind (tables_of c.args.on.stores.now c.args.on.standing.now c.args.on.rules.now c.args.on.busy.now c.args.on.now) c.loop-place.place c.loop-place.least (let e = c.len-place-end.ensures.value in omega (arith, e, c.loop-place-test.false)) c.loop-place.invariant
