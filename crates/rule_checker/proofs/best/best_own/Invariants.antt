use Rattle.rule_checker.specs.Best.{IsBestOf}
use Rattle.rule_checker.proofs.best.best_own.Given as goal

abbrev pub invariant-loop-peer : goal.invariant-loop-peer
invariant-loop-peer l = IsBestOf l.class l.on.beat.now l.on.rules.now l.on.stores.now l.on.standing.now l.on.now l.from l.peer-index l.best
