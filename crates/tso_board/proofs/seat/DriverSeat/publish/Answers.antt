use Rattle.std.proofs.Common.{arith, ap, ◌∙◌}
use Rattle.tso_model.specs.Steps.{held_or}
use Rattle.tso_board.proofs.Allowed.{publishes}
use Rattle.tso_board.proofs.seat.DriverSeat.publish.Goals as goal

pub store-requires : goal.store-requires
store-requires c = let it = c.args.self.now in
    let same = ap held_or (it.newest ∙ c.in-Some.is) in
    let may = c.requires.may in (
      c.requires.board,
      omega (arith, it.in_table, ap (λ t. t.words) c.requires.board),
      publishes _ _ _ _ _ _ (omega (arith, it.numbered, it.positive), may.holds, may.marked, may.claim, may.open_is) (omega (arith, it.numbered)) (c.packed-limit.ensures.value ∙ omega (arith, ap (λ w. w.hi) same, ap (λ w. w.term) same)),
    )
