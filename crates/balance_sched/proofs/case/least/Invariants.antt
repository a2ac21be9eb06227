use Rattle.balance_sched.specs.Tables.{tables_of}
use Rattle.balance_sched.proofs.SearchLemmas.{IsLeastBelow}
use Rattle.balance_sched.proofs.case.least.Given as goal

abbrev pub invariant-loop-place : goal.invariant-loop-place
invariant-loop-place l = IsLeastBelow l.on.kind (tables_of l.on.stores.now l.on.standing.now l.on.rules.now l.on.busy.now l.on.now) l.place l.least
