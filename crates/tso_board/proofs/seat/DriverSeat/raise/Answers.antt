use Rattle.std.proofs.Common.{arith, ap}
use Rattle.tso_board.proofs.Allowed.{raises}
use Rattle.tso_board.proofs.seat.DriverSeat.raise.Goals as goal

pub fetch_max-found-requires : goal.fetch_max-found-requires
fetch_max-found-requires c = let it = c.args.self.now in (c.requires.board, omega (arith, it.in_table, ap (λ t. t.words) c.requires.board), raises _ _ _ _ _ _ (omega (arith, it.numbered, it.positive), c.requires.may) (omega (arith, it.numbered)))
