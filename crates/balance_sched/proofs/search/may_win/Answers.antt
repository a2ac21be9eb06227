use Rattle.balance_sched.specs.Tables.{tables_of}
use Rattle.balance_sched.proofs.OrderLemmas.{follows_self}
use Rattle.balance_sched.proofs.SearchLemmas.{of_all, of_more, peer_at}
use Rattle.balance_sched.proofs.search.may_win.Goals as goal

pub loop-peer-preserved : goal.loop-peer-preserved
loop-peer-preserved c =
    of_more c.args.on.view.kind (tables_of c.args.on.view.stores.now c.args.on.view.standing.now c.args.on.view.rules.now c.args.on.view.busy.now c.args.on.view.now) c.args.beat.now c.loop-peer.peer-index _ c.args.best c.args.best (c.may_win_from.ensures c.if-may_win_from.false)
    (λ one at. peer_at _ _ _ _ one c.as_slice-peer-items.ensures.value at) (follows_self c.args.on.view.kind (tables_of c.args.on.view.stores.now c.args.on.view.standing.now c.args.on.view.rules.now c.args.on.view.busy.now c.args.on.view.now) c.args.beat.now c.args.best) c.loop-peer.invariant

pub returns : goal.returns
returns c = λ _. of_all c.args.on.view.kind (tables_of c.args.on.view.stores.now c.args.on.view.standing.now c.args.on.view.rules.now c.args.on.view.busy.now c.args.on.view.now) c.args.beat.now c.loop-peer.peer-index c.args.best (rw (← c.as_slice-peer-items.ensures.value) c.loop-peer-test.false) c.loop-peer.invariant
