use Rattle.std.proofs.Common.{◌≡◌, map, sym, ap, ◌∙◌, subst, arith}
use Rattle.std.specs.Prelude.{Some}
use Rattle.std.proofs.lemmas.List.Elements.{All-pop}
use Rattle.tso_model.specs.Ledger.{Gathered, HasAll}
use Rattle.tso_board.specs.declared.seat.DriverSeat.{DriverSeat}
use Rattle.tso_board.specs.Ledger.{first_in}
use Rattle.tso_board.specs.Passes.{pass_view}
use Rattle.tso_board.specs.Plays.{Sat}
use Rattle.tso_board.specs.Seats.{seat_view}
use Rattle.tso_board.proofs.Allowed.{notes}
use Rattle.tso_board.proofs.Gathers.{has_all, joined_whole}
use Rattle.tso_board.proofs.ledger.end.Goals as goal

pub split_seat-base-requires : goal.split_seat-base-requires
split_seat-base-requires c = (c.into_seat-last.ensures.board ∙ (All-pop (λ (s : DriverSeat). s.seat.table_id ≡ c.args.board.table.shared.table_id) c.args.seats.items c.pop.new.self.items (Some c.in-Some.last) c.in-Some.ensures.items c.requires.seats).1, omega (arith, c.args.board.sized), notes _ _ _ (ap (λ (m : Sat). m.0.spent) c.into_seat-last.ensures.view ∙ c.into_seat-last.ensures.live))

pub split_seat-mark-requires : goal.split_seat-mark-requires
split_seat-mark-requires c = (c.split_seat-base.ensures.3 ∙ (c.into_seat-last.ensures.board ∙ (All-pop (λ (s : DriverSeat). s.seat.table_id ≡ c.args.board.table.shared.table_id) c.args.seats.items c.pop.new.self.items (Some c.in-Some.last) c.in-Some.ensures.items c.requires.seats).1), omega (arith, c.args.board.sized), notes _ _ _ (ap (λ (m : Sat). m.0.spent) c.split_seat-base.ensures.4))

pub take_seats-requires-clause-board : goal.take_seats-requires-clause-board
take_seats-requires-clause-board c = c.split_seat-mark.ensures.0 ∙ (c.split_seat-base.ensures.3 ∙ (c.into_seat-last.ensures.board ∙ (All-pop (λ (s : DriverSeat). s.seat.table_id ≡ c.args.board.table.shared.table_id) c.args.seats.items c.pop.new.self.items (Some c.in-Some.last) c.in-Some.ensures.items c.requires.seats).1))

pub take_seats-requires-clause-seats : goal.take_seats-requires-clause-seats
take_seats-requires-clause-seats c = (All-pop (λ (s : DriverSeat). s.seat.table_id ≡ c.args.board.table.shared.table_id) c.args.seats.items c.pop.new.self.items (Some c.in-Some.last) c.in-Some.ensures.items c.requires.seats).0

pub take_in-requires-clause-board : goal.take_in-requires-clause-board
take_in-requires-clause-board c = c.take_seats.ensures.board ∙ (c.split_seat-mark.ensures.0 ∙ (c.split_seat-base.ensures.3 ∙ (c.into_seat-last.ensures.board ∙ (All-pop (λ (s : DriverSeat). s.seat.table_id ≡ c.args.board.table.shared.table_id) c.args.seats.items c.pop.new.self.items (Some c.in-Some.last) c.in-Some.ensures.items c.requires.seats).1)))

pub take_in-requires-clause-other : goal.take_in-requires-clause-other
take_in-requires-clause-other c = c.split_seat-base.ensures.0 ∙ (c.into_seat-last.ensures.board ∙ (All-pop (λ (s : DriverSeat). s.seat.table_id ≡ c.args.board.table.shared.table_id) c.args.seats.items c.pop.new.self.items (Some c.in-Some.last) c.in-Some.ensures.items c.requires.seats).1)

pub take_passes-requires-clause-board : goal.take_passes-requires-clause-board
take_passes-requires-clause-board c = c.take_in.ensures.board ∙ (c.take_seats.ensures.board ∙ (c.split_seat-mark.ensures.0 ∙ (c.split_seat-base.ensures.3 ∙ (c.into_seat-last.ensures.board ∙ (All-pop (λ (s : DriverSeat). s.seat.table_id ≡ c.args.board.table.shared.table_id) c.args.seats.items c.pop.new.self.items (Some c.in-Some.last) c.in-Some.ensures.items c.requires.seats).1))))

pub close-requires-clause-board : goal.close-requires-clause-board
close-requires-clause-board c = c.take_passes.ensures.board ∙ (c.take_in.ensures.board ∙ (c.take_seats.ensures.board ∙ (c.split_seat-mark.ensures.0 ∙ (c.split_seat-base.ensures.3 ∙ (c.into_seat-last.ensures.board ∙ (All-pop (λ (s : DriverSeat). s.seat.table_id ≡ c.args.board.table.shared.table_id) c.args.seats.items c.pop.new.self.items (Some c.in-Some.last) c.in-Some.ensures.items c.requires.seats).1)))))

pub close-requires-clause-all : goal.close-requires-clause-all
close-requires-clause-all c =
    let whole = joined_whole c.into_seat-last.result.me.0.opening c.into_seat-last.result.me.0.seen c.split_seat-mark.new.seat.me.0 c.take_seats.new.base.me.0 c.split_seat-base.new.seat.me.0 c.take_in.new.base.me.0 c.take_passes.new.base.me.0 c.args.seats.items c.pop.new.self.items c.in-Some.last (map pass_view c.args.passes.items) c.in-Some.ensures.items
    (ap (λ (m : Sat). m.0) c.split_seat-mark.ensures.2 ∙ ap (λ (m : Sat). m.0) c.split_seat-base.ensures.4)
    (ap (λ (m : Sat). m.0) c.take_seats.ensures.view)
    (ap (λ (m : Sat). m.0) c.split_seat-base.ensures.2 ∙ ap (λ (m : Sat). m.0) c.into_seat-last.ensures.view)
    (ap (λ (m : Sat). m.0) c.take_in.ensures.view)
    (ap (λ (m : Sat). m.0) c.take_passes.ensures.view) in
    subst (HasAll c.args.board.table.shared.key) (sym whole) (has_all c.args.board.table.shared.key (first_in c.into_seat-last.result.me.0.opening c.into_seat-last.result.me.0.seen) (map seat_view c.args.seats.items) (map pass_view c.args.passes.items) c.requires.drivers c.requires.clients)

pub returns-clause-gathered : goal.returns-clause-gathered
returns-clause-gathered c =
    let whole = joined_whole c.into_seat-last.result.me.0.opening c.into_seat-last.result.me.0.seen c.split_seat-mark.new.seat.me.0 c.take_seats.new.base.me.0 c.split_seat-base.new.seat.me.0 c.take_in.new.base.me.0 c.take_passes.new.base.me.0 c.args.seats.items c.pop.new.self.items c.in-Some.last (map pass_view c.args.passes.items) c.in-Some.ensures.items
    (ap (λ (m : Sat). m.0) c.split_seat-mark.ensures.2 ∙ ap (λ (m : Sat). m.0) c.split_seat-base.ensures.4)
    (ap (λ (m : Sat). m.0) c.take_seats.ensures.view)
    (ap (λ (m : Sat). m.0) c.split_seat-base.ensures.2 ∙ ap (λ (m : Sat). m.0) c.into_seat-last.ensures.view)
    (ap (λ (m : Sat). m.0) c.take_in.ensures.view)
    (ap (λ (m : Sat). m.0) c.take_passes.ensures.view) in
    (c.into_seat-last.result.me.0.opening, c.into_seat-last.result.me.0.seen, subst (Gathered c.args.board.table.shared.key) whole c.close.ensures.gathered)

pub returns-clause-mark : goal.returns-clause-mark
returns-clause-mark c = c.split_seat-mark.ensures.3 ∙ (c.split_seat-base.ensures.3 ∙ (c.into_seat-last.ensures.board ∙ (All-pop (λ (s : DriverSeat). s.seat.table_id ≡ c.args.board.table.shared.table_id) c.args.seats.items c.pop.new.self.items (Some c.in-Some.last) c.in-Some.ensures.items c.requires.seats).1))
