use Rattle.pd_state.proofs.Lives.{lives_between}
use Rattle.pd_state.proofs.check_laws.operators_live_by_the_table.Goals as goal

pub returns : goal.returns
returns c = record { lives = lives_between }
