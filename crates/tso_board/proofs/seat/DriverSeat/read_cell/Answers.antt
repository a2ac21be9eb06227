use Rattle.std.proofs.Common.{arith}
use Rattle.tso_board.proofs.Allowed.{loads}
use Rattle.tso_board.proofs.seat.DriverSeat.read_cell.Goals as goal

pub load-found-requires : goal.load-found-requires
load-found-requires c = let it = c.args.self.now in (c.requires.board, omega (arith, c.args.board.now.sized), loads _ _ _ _ (omega (arith, it.numbered, it.positive)))
