use Rattle.pd_turn.specs.Turns.{IsFree}
use Rattle.tso_threads.proofs.turning.take_all.Given as goal

abbrev pub invariant-loop : goal.invariant-loop
invariant-loop g l = IsFree l.turn l.ticket
