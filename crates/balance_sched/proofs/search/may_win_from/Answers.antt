use Rattle.std.proofs.Common.{◌≡◌, ◌≤◌, arith, sym}
use Rattle.balance_sched.specs.Tables.{tables_of}
use Rattle.balance_sched.proofs.OrderLemmas.{follows_self}
use Rattle.balance_sched.proofs.SearchLemmas.{to_all, to_more, to_none}
use Rattle.balance_sched.proofs.search.may_win_from.Goals as goal

pub loop-place-init : goal.loop-place-init
loop-place-init c = to_none c.args.on.view.kind (tables_of c.args.on.view.stores.now c.args.on.view.standing.now c.args.on.view.rules.now c.args.on.view.busy.now c.args.on.view.now) c.args.beat.now c.args.from c.args.best

pub loop-place-preserved : goal.loop-place-preserved
loop-place-preserved c =
    to_more c.args.on.view.kind (tables_of c.args.on.view.stores.now c.args.on.view.standing.now c.args.on.view.rules.now c.args.on.view.busy.now c.args.on.view.now) c.args.beat.now c.args.from c.loop-place.place c.in-Some.target.store c.args.best c.args.best (sym c.in-Some.ensures.store)
    (follows_self c.args.on.view.kind (tables_of c.args.on.view.stores.now c.args.on.view.standing.now c.args.on.view.rules.now c.args.on.view.busy.now c.args.on.view.now) c.args.beat.now c.args.best) (c.may_reach.ensures c.if-may_reach.false) c.loop-place.invariant

pub returns : goal.returns
returns c = λ _. to_all c.args.on.view.kind (tables_of c.args.on.view.stores.now c.args.on.view.standing.now c.args.on.view.rules.now c.args.on.view.busy.now c.args.on.view.now) c.args.beat.now c.args.from c.loop-place.place c.args.best (let e = c.targets_len-place-end.ensures in let f = c.loop-place-test.false in omega (arith, e, f)) c.loop-place.invariant
