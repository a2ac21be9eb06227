use Rattle.pd_state.proofs.Gates.{gated}
use Rattle.pd_state.proofs.check_laws.each_sent_step_is_safe.Goals as goal

pub returns : goal.returns
returns c = record { gated = gated }
