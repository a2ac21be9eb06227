use Rattle.std.proofs.Common.{◌≡◌}
use Rattle.tso_core.proofs.tests.play_all.Given as goal

abbrev pub invariant-loop-line : goal.invariant-loop-line
invariant-loop-line g l = l.core.setup ≡ l.fn.core.setup
