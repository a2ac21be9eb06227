use Rattle.tso_client.proofs.Posting.{opens}
use Rattle.tso_client.proofs.log.Log.new.Goals as goal

pub invariant_of-result : goal.invariant_of-result
invariant_of-result g c = opens g.N.BoardName.board _ _ c.new.ensures.items c.in_ok-no_notes.ensures.value
