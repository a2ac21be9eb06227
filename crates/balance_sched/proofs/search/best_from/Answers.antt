use Rattle.std.proofs.Common.{arith, sym}
use Rattle.balance_sched.specs.Tables.{tables_of}
use Rattle.balance_sched.proofs.OrderLemmas.{follows_on, follows_self}
use Rattle.balance_sched.proofs.SearchLemmas.{to_all, to_more, to_none}
use Rattle.balance_sched.proofs.search.best_from.Goals as goal

pub loop-place-init : goal.loop-place-init
loop-place-init c = record { follows = follows_self c.args.of.on.view.kind (tables_of c.args.of.on.view.stores.now c.args.of.on.view.standing.now c.args.of.on.view.rules.now c.args.of.on.view.busy.now c.args.of.on.view.now) c.args.of.beat.now c.args.best; lose = to_none c.args.of.on.view.kind (tables_of c.args.of.on.view.stores.now c.args.of.on.view.standing.now c.args.of.on.view.rules.now c.args.of.on.view.busy.now c.args.of.on.view.now) c.args.of.beat.now c.args.from c.args.best }

pub loop-place-preserved : goal.loop-place-preserved
loop-place-preserved c = record {
  follows = follows_on c.args.of.on.view.kind (tables_of c.args.of.on.view.stores.now c.args.of.on.view.standing.now c.args.of.on.view.rules.now c.args.of.on.view.busy.now c.args.of.on.view.now) c.args.of.beat.now c.args.best c.loop-place.found c.in_ok-found.found c.loop-place.invariant.follows c.in_ok-found.ensures.follows;
  lose = to_more c.args.of.on.view.kind (tables_of c.args.of.on.view.stores.now c.args.of.on.view.standing.now c.args.of.on.view.rules.now c.args.of.on.view.busy.now c.args.of.on.view.now) c.args.of.beat.now c.args.from c.loop-place.place c.in-Some.target.store c.loop-place.found c.in_ok-found.found (sym c.in-Some.ensures.store) c.in_ok-found.ensures.follows c.in_ok-found.ensures.lose c.loop-place.invariant.lose;
}

pub returns-clause-follows : goal.returns-clause-follows
returns-clause-follows c = c.loop-place.invariant.follows

pub returns-clause-lose : goal.returns-clause-lose
returns-clause-lose c = to_all c.args.of.on.view.kind (tables_of c.args.of.on.view.stores.now c.args.of.on.view.standing.now c.args.of.on.view.rules.now c.args.of.on.view.busy.now c.args.of.on.view.now) c.args.of.beat.now c.args.from c.loop-place.place c.loop-place.found (let e = c.targets_len-place-end.ensures in let f = c.loop-place-test.false in omega (arith, e, f)) c.loop-place.invariant.lose
