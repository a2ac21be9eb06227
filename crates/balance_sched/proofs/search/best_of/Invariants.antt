use Rattle.balance_sched.specs.Search.{Follows}
use Rattle.balance_sched.specs.Tables.{tables_of}
use Rattle.balance_sched.proofs.SearchLemmas.{LoseOf}
use Rattle.balance_sched.proofs.search.best_of.Given as goal

abbrev pub invariant-loop-peer : goal.invariant-loop-peer
invariant-loop-peer l = record {
  follows : Follows l.of.on.view.kind (tables_of l.of.on.view.stores.now l.of.on.view.standing.now l.of.on.view.rules.now l.of.on.view.busy.now l.of.on.view.now) l.of.beat.now l.fn.best l.found;
  lose : LoseOf l.of.on.view.kind (tables_of l.of.on.view.stores.now l.of.on.view.standing.now l.of.on.view.rules.now l.of.on.view.busy.now l.of.on.view.now) l.of.beat.now l.peer-index l.found;
}
