use Rattle.tso_client.proofs.Hearing.{heard_all, heard_first}
use Rattle.tso_client.proofs.laws.notes_are_heard_in_their_order.Goals as goal

pub returns : goal.returns
returns c = record { first = heard_first; all = heard_all }
