use Rattle.std.proofs.Common.{arith}
use Rattle.tso_board.proofs.Allowed.{notes}
use Rattle.tso_board.proofs.pass.Pass.note.Goals as goal

pub split_seat-seat-requires : goal.split_seat-seat-requires
split_seat-seat-requires c = (c.requires.board, omega (arith, c.args.board.now.sized), notes _ _ _ c.args.self.now.live)
