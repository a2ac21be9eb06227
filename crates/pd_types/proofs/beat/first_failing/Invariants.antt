use Rattle.std.proofs.Common.{◌≡◌, drop}
use Rattle.std.specs.List.{find}
use Rattle.pd_types.specs.BeatCheck.{fails}
use Rattle.pd_types.proofs.beat.first_failing.Given as goal

abbrev pub invariant-loop-test : goal.invariant-loop-test
invariant-loop-test l = find (fails l.beat) l.tests ≡ find (fails l.beat) (drop l.test-index l.tests)
