use Rattle.balance_sched.specs.Tables.{tables_of}
use Rattle.balance_sched.proofs.OrderLemmas.{follows_on, follows_self}
use Rattle.balance_sched.proofs.SearchLemmas.{of_all, of_more, of_none, peer_at}
use Rattle.balance_sched.proofs.search.best_of.Goals as goal

pub loop-peer-init : goal.loop-peer-init
loop-peer-init c = record { follows = follows_self c.args.of.on.view.kind (tables_of c.args.of.on.view.stores.now c.args.of.on.view.standing.now c.args.of.on.view.rules.now c.args.of.on.view.busy.now c.args.of.on.view.now) c.args.of.beat.now c.args.best; lose = of_none c.args.of.on.view.kind (tables_of c.args.of.on.view.stores.now c.args.of.on.view.standing.now c.args.of.on.view.rules.now c.args.of.on.view.busy.now c.args.of.on.view.now) c.args.of.beat.now c.args.best }

pub loop-peer-preserved : goal.loop-peer-preserved
loop-peer-preserved c = record {
  follows = follows_on c.args.of.on.view.kind (tables_of c.args.of.on.view.stores.now c.args.of.on.view.standing.now c.args.of.on.view.rules.now c.args.of.on.view.busy.now c.args.of.on.view.now) c.args.of.beat.now c.args.best c.loop-peer.found c.in_ok-found.found c.loop-peer.invariant.follows c.in_ok-found.ensures.follows;
  lose = of_more c.args.of.on.view.kind (tables_of c.args.of.on.view.stores.now c.args.of.on.view.standing.now c.args.of.on.view.rules.now c.args.of.on.view.busy.now c.args.of.on.view.now) c.args.of.beat.now c.loop-peer.peer-index _ c.loop-peer.found c.in_ok-found.found c.in_ok-found.ensures.lose
      (λ one at. peer_at _ _ _ _ one c.as_slice-peer-items.ensures.value at) c.in_ok-found.ensures.follows c.loop-peer.invariant.lose;
}

pub returns-clause-follows : goal.returns-clause-follows
returns-clause-follows c = c.loop-peer.invariant.follows

pub returns-clause-lose : goal.returns-clause-lose
returns-clause-lose c = of_all c.args.of.on.view.kind (tables_of c.args.of.on.view.stores.now c.args.of.on.view.standing.now c.args.of.on.view.rules.now c.args.of.on.view.busy.now c.args.of.on.view.now) c.args.of.beat.now c.loop-peer.peer-index c.loop-peer.found (rw (← c.as_slice-peer-items.ensures.value) c.loop-peer-test.false) c.loop-peer.invariant.lose
