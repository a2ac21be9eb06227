use Rattle.tso_threads.specs.Workers.{IsDrawerOf}
use Rattle.tso_threads.proofs.crew.Drawer.work.Given as goal

abbrev pub invariant-loop : goal.invariant-loop
invariant-loop g l = IsDrawerOf l.self l.shared.board
