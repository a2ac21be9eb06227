use Rattle.pd_state.proofs.Passing.{has_passed}
use Rattle.pd_state.proofs.check_laws.finished_steps_are_passed_over.Goals as goal

pub returns : goal.returns
returns c = record { passed = has_passed }
