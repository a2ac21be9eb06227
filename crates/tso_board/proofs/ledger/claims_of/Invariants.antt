use Rattle.std.proofs.Common.{◌≡◌, ◌∷◌, ◌++◌, drop, map}
use Rattle.tso_model.specs.Words.{opening_claim}
use Rattle.tso_board.specs.Ledger.{all_claims}
use Rattle.tso_board.specs.Seats.{seat_view}
use Rattle.tso_board.proofs.ledger.claims_of.Given as goal

abbrev pub invariant-loop-seat : goal.invariant-loop-seat
invariant-loop-seat l = l.claims.items ++ all_claims (map seat_view (drop l.seat-index l.seats)) ≡ opening_claim l.fn.opening ∷ all_claims (map seat_view l.seats)
