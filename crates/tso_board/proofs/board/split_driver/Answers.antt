use Rattle.std.proofs.Common.{arith}
use Rattle.tso_board.proofs.Allowed.{drivers}
use Rattle.tso_board.proofs.board.split_driver.Goals as goal

pub split_seat-requires : goal.split_seat-requires
split_seat-requires c = (c.requires.board, omega (arith, c.requires.sized), drivers _ _ _ c.requires.live c.requires.some)
