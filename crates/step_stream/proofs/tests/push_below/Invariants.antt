use Rattle.std.proofs.Common.{◌≡◌}
use Rattle.step_stream.proofs.tests.push_below.Given as goal

abbrev pub invariant-loop-region : goal.invariant-loop-region
invariant-loop-region g l = l.giver.stream ≡ l.stream
