use Rattle.tso_laws.proofs.Saying.{again_passed, take_again_passed, refuses_out_of_turn, batches_grow}
use Rattle.tso_laws.proofs.laws.every_answer_tells.Goals as goal

pub returns : goal.returns
returns c = record { again = again_passed; take = take_again_passed; turn = refuses_out_of_turn; batches = batches_grow }
