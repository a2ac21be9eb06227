use Rattle.std.proofs.Common.{◌≡◌, List, map, sym, ap, ◌∙◌}
use Rattle.std.proofs.lemmas.List.Elements.{All-rest}
use Rattle.std.specs.Vec.Iter.{into_iter_items}
use Rattle.tso_model.specs.Moves.{joined}
use Rattle.tso_board.specs.declared.seat.DriverSeat.{DriverSeat}
use Rattle.tso_board.specs.Ledger.{all_joined}
use Rattle.tso_board.specs.Plays.{Sat}
use Rattle.tso_board.specs.Seats.{seat_view}
use Rattle.tso_board.proofs.ledger.take_seats.Goals as goal

pub loop-seat-preserved : goal.loop-seat-preserved
loop-seat-preserved c =
    let it = c.loop-seat.invariant in
    let old = c.loop-seat.base.me.0 in
    let rest = map seat_view (into_iter_items c.next.new.self) in
    record {
      board = c.take_in.ensures.board ∙ it.board;
      view = ap (λ (m : Sat). all_joined m.0 rest) c.take_in.ensures.view ∙ ap (λ (m : Sat). all_joined (joined old m.0) rest) c.into_seat.ensures.view
          ∙ sym (ap (λ (l : List DriverSeat). all_joined old (map seat_view l)) c.in-Some.ensures.steps.0) ∙ it.view;
      slots = ap (λ (m : Sat). m.1) c.take_in.ensures.view ∙ it.slots;
      seats = All-rest (λ (s : DriverSeat). s.seat.table_id ≡ c.args.table.now.shared.table_id) _ _ _ c.in-Some.ensures.steps.0 it.seats;
      live = ap (λ (m : Sat). m.0.spent) c.take_in.ensures.view ∙ it.live;
      rest = (ap (λ (m : Sat). m.0.hand) c.take_in.ensures.view ∙ it.rest.0, ap (λ (m : Sat). m.0.armed) c.take_in.ensures.view ∙ it.rest.1);
    }
