use Rattle.std.proofs.Common.{◌≡◌, take}
use Rattle.pd_state.specs.Adding.{around_of}
use Rattle.pd_state.specs.Checking.{surveyed}
use Rattle.pd_state.proofs.patrol.survey_all.Given as goal

abbrev pub invariant-loop-place : goal.invariant-loop-place
invariant-loop-place l = l.survey ≡ surveyed (around_of l.part) (take l.place l.part.standing)
