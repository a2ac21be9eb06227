use Rattle.pd_state.proofs.Fates.{who_spoke}
use Rattle.pd_state.proofs.turn_laws.who_spoke_has_heard.Goals as goal

pub returns : goal.returns
returns c = record { heard = who_spoke }
