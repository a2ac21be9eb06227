use Rattle.balance_sched.specs.Tables.{tables_of}
use Rattle.balance_sched.proofs.SearchLemmas.{LoseTo}
use Rattle.balance_sched.proofs.search.may_win_from.Given as goal

abbrev pub invariant-loop-place : goal.invariant-loop-place
invariant-loop-place l = LoseTo l.on.view.kind (tables_of l.on.view.stores.now l.on.view.standing.now l.on.view.rules.now l.on.view.busy.now l.on.view.now) l.beat l.from l.place l.best
