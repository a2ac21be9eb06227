use Rattle.step_stream.proofs.Longer.{either, met, own}
use Rattle.step_stream.proofs.laws.who_meets_a_note_knows_no_less.Goals as goal

pub returns : goal.returns
returns c = record { own = own; met = met; either = either }
