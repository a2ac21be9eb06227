use Rattle.tso_board.proofs.Whose.{opened_is_whole}
use Rattle.tso_board.proofs.tests.gathers_the_opening_window.Goals as goal

pub gather-requires : goal.gather-requires
gather-requires g c = record { whole = opened_is_whole _ _ c.in_ok-crew.ensures.opened }
