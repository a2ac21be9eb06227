use Rattle.std.proofs.Common.{◌≡◌, All, map, false}
use Rattle.std.specs.Vec.Iter.{into_iter_items}
use Rattle.tso_model.specs.Steps.{AtRest}
use Rattle.tso_board.specs.declared.seat.DriverSeat.{DriverSeat}
use Rattle.tso_board.specs.Ledger.{all_joined}
use Rattle.tso_board.specs.Seats.{seat_view}
use Rattle.tso_board.proofs.ledger.take_seats.Given as goal

abbrev pub invariant-loop-seat : goal.invariant-loop-seat
invariant-loop-seat l = record {
  board : l.base.table_id ≡ l.initial.base.table_id;
  view : all_joined l.base.me.0 (map seat_view (into_iter_items l.seat-iterator)) ≡ all_joined l.initial.base.me.0 (map seat_view (into_iter_items l.initial.seat-iterator));
  slots : l.base.me.1 ≡ l.initial.base.me.1;
  seats : All (λ (s : DriverSeat). s.seat.table_id ≡ l.table.shared.table_id) (into_iter_items l.seat-iterator);
  live : l.base.me.0.spent ≡ false;
  rest : AtRest l.base.me.0;
}
