use Rattle.pd_state.proofs.NextFree.{comes}
use Rattle.pd_state.proofs.check_laws.how_a_new_peer_gets_its_id.Goals as goal

pub returns : goal.returns
returns c = record { ids = comes }
