use Rattle.rule_checker.specs.Best.{IsBestOf}
use Rattle.rule_checker.proofs.arrival.best_new.Given as goal

abbrev pub invariant-loop-entry : goal.invariant-loop-entry
invariant-loop-entry l = IsBestOf l.class l.on.beat.now l.on.rules.now l.on.stores.now l.on.standing.now l.on.now l.from l.entry-index l.best
