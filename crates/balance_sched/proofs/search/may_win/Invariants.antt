use Rattle.balance_sched.specs.Tables.{tables_of}
use Rattle.balance_sched.proofs.SearchLemmas.{LoseOf}
use Rattle.balance_sched.proofs.search.may_win.Given as goal

abbrev pub invariant-loop-peer : goal.invariant-loop-peer
invariant-loop-peer l = LoseOf l.on.view.kind (tables_of l.on.view.stores.now l.on.view.standing.now l.on.view.rules.now l.on.view.busy.now l.on.view.now) l.beat l.peer-index l.best
