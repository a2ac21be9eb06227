use Rattle.std.proofs.Common.{arith, ap}
use Rattle.pd_turn.proofs.Hands.{hands_out}
use Rattle.pd_turn.proofs.seats.hand_out.Goals as goal

pub split_seat-place-requires : goal.split_seat-place-requires
split_seat-place-requires g c =
    let seat = c.loop-number.seat in (
      c.loop-number.invariant.0,
      omega (arith, c.requires.board.1),
      hands_out g.T.Tale.tale c.args.board.now.key seat.id seat.me.0 c.args.numbers.now c.loop-number.number-index (ap (λ m. m.0) c.loop-number.invariant.1) c.requires.apart c.loop-number-test.true,
    )
