use Rattle.std.proofs.Common.{arith, ap}
use Rattle.tso_board.proofs.Allowed.{arms}
use Rattle.tso_board.proofs.pass.load_armed.Goals as goal

pub load-requires : goal.load-requires
load-requires g c = (c.requires.board, omega (arith, c.requires.within, ap (λ t. t.words) c.requires.board), rw c.requires.count (arms _ _ _ c.args.n _ c.args.seat.now.me c.requires.may c.requires.at))
