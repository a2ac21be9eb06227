use Rattle.pd_turn.specs.Turns.{IsFree}
use Rattle.pd_turn.proofs.tests.come.Given as goal

abbrev pub invariant-loop-i : goal.invariant-loop-i
invariant-loop-i g l = IsFree l.turn l.ticket
