use Rattle.std.proofs.Common.{◌+◌, ◌≤◌}
use Rattle.tso_driver.specs.Drivers.{IsDriverOf, spare_of}
use Rattle.tso_threads.proofs.leading.Contender.campaign.Given as goal

abbrev pub invariant-loop-now : goal.invariant-loop-now
invariant-loop-now l = IsDriverOf l.self.driver l.board × (l.times ≤ spare_of l.self.driver + l.now)
