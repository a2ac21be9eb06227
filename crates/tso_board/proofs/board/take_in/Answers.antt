use Rattle.std.proofs.Common.{arith}
use Rattle.tso_board.proofs.Allowed.{meets}
use Rattle.tso_board.proofs.board.take_in.Goals as goal

pub join_seat-requires : goal.join_seat-requires
join_seat-requires c = (c.requires.board, c.requires.other, c.requires.empty, omega (arith, c.requires.sized), meets _ _ _ _ _ c.requires.live c.requires.other_live c.requires.rest)
