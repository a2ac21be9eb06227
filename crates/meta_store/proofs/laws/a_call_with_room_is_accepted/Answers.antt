use Rattle.meta_store.proofs.Verdicts.{lead_accepted, new_accepted, known_accepted, deletion_accepted}
use Rattle.meta_store.proofs.laws.a_call_with_room_is_accepted.Goals as goal

pub returns : goal.returns
returns c = record { lead = lead_accepted; new_key = new_accepted; known_key = known_accepted; deletion = deletion_accepted }
