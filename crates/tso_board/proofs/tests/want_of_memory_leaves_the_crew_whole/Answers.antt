use Rattle.tso_board.proofs.Whose.{opened_is_whole}
use Rattle.tso_board.proofs.tests.want_of_memory_leaves_the_crew_whole.Goals as goal

pub gathered-requires : goal.gathered-requires
gathered-requires g c = record { whole = opened_is_whole _ _ c.in_ok-crew.ensures.opened }
