use Rattle.std.proofs.Common.{arith, ap, ◌∙◌, sym}
use Rattle.tso_model.specs.Words.{cell_word}
use Rattle.tso_board.proofs.Allowed.{campaigns}
use Rattle.tso_board.proofs.seat.DriverSeat.campaign.Goals as goal

pub packed-known-requires : goal.packed-known-requires
packed-known-requires c = record { time = c.args.self.now.cell_fits.0; term = c.args.self.now.cell_fits.1 }

pub compare_exchange-found-requires : goal.compare_exchange-found-requires
compare_exchange-found-requires c =
    let it = c.args.self.now in
    let is_old = c.packed-known.ensures.value ∙ ap cell_word (sym it.celled) in (
      c.requires.board,
      omega (arith, c.args.board.now.sized),
      campaigns _ _ _ _ _ _ (omega (arith, it.numbered, it.positive), c.requires.terms) is_old (omega (arith, is_old)),
    )
