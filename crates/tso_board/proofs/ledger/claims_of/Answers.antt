use Rattle.std.proofs.Common.{◌+◌, ◌∷◌, drop, sym, ap, ◌∙◌, arith}
use Rattle.std.proofs.lemmas.List.{drop_more}
use Rattle.tso_board.specs.declared.seat.DriverSeat.{DriverSeat}
use Rattle.tso_board.proofs.Gathers.{claims_step}
use Rattle.tso_board.proofs.ledger.claims_of.Goals as goal

pub loop-seat-preserved : goal.loop-seat-preserved
loop-seat-preserved c =
    let p = c.seat-item.result in
    claims_step _ _ p _ _ _ (drop_more c.args.seats.now c.loop-seat.seat-index p (omega arith) ∙ ap (λ (x : DriverSeat). x ∷ drop (c.loop-seat.seat-index + 1) c.args.seats.now) (sym c.seat-item.is))
    c.in_ok-add_claims.ensures.ok c.loop-seat.invariant
