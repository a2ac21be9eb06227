use Rattle.tso_driver.specs.Drivers.{IsDriverOf}
use Rattle.tso_threads.proofs.crew.Ticker.work.Given as goal

abbrev pub invariant-loop : goal.invariant-loop
invariant-loop g l = IsDriverOf l.self.driver l.shared.board
