use Rattle.std.proofs.Common.{arith}
use Rattle.tso_board.proofs.Allowed.{looks}
use Rattle.tso_board.proofs.pass.Pass.look.Goals as goal

pub load-word-requires : goal.load-word-requires
load-word-requires c = let it = c.args.self.now in
    (c.requires.board, omega (arith, c.args.board.now.sized, c.requires.some, c.requires.driver), looks _ _ _ c.args.driver _ _ (omega (arith, it.numbered, it.positive), c.requires.rest, c.requires.some, c.requires.driver) (omega (arith, c.requires.some)))
