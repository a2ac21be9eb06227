use Rattle.std.proofs.Common.{arith, ap, ◌∙◌, sym}
use Rattle.tso_model.specs.Steps.{held_or}
use Rattle.tso_model.specs.Words.{packed}
use Rattle.tso_board.proofs.Allowed.{saves}
use Rattle.tso_board.proofs.seat.DriverSeat.save.Goals as goal

pub compare_exchange-found-requires : goal.compare_exchange-found-requires
compare_exchange-found-requires c =
    let it = c.args.self.now in
    let same = ap held_or (it.newest ∙ c.in-Some.is) in (
      c.requires.board,
      omega (arith, c.args.board.now.sized),
      saves _ _ _ _ _ c.args.hi _ (omega (arith, it.numbered, it.positive), c.requires.holds, c.requires.claim, c.requires.later, c.requires.clock)
          (c.packed-held.ensures.value ∙ sym (ap (λ w. packed w.hi w.term) same)) (c.packed-new.ensures.value ∙ sym (ap (λ w. packed c.args.hi w.term) same)) (omega (arith, c.packed-new.ensures.value, (it.window_fits c.in-Some.claim c.in-Some.is).1)),
    )
