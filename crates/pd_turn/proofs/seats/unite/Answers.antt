use Rattle.std.proofs.Common.{◌++◌, ◌∷◌, [], None, ap, ◌∙◌}
use Rattle.pd_turn.specs.Rule.{view_of, list_of}
use Rattle.pd_turn.specs.Turns.{turn_value}
use Rattle.pd_turn.proofs.Hands.{takes_in}
use Rattle.pd_turn.proofs.Tickets.{free_seat, joined, peeled, of_rest}
use Rattle.pd_turn.proofs.seats.unite.Goals as goal

pub join_seat-requires : goal.join_seat-requires
join_seat-requires g c =
    let inv = c.loop-ticket.invariant in let seat = c.loop-ticket.seat in let ns = c.args.seat.now.me.0.numbers in
    let own = of_rest (turn_value c.args.board.now.table_id ns) c.loop-ticket.tickets.items c.pop.new.self.items c.in-Some.ticket c.in-Some.ensures.items inv.3 in
    let o = c.ticket.inside in
    let free = free_seat o.number o.seat.me c.ticket.invariant (ap (λ t. t.taken) c.ticket.view_is ∙ own.2) in
    let turn = ap (λ t. t.turn) c.ticket.view_is ∙ own.1 in (
      inv.0,
      ap (λ t. t.id) turn,
      ap (λ m. m.1) free,
      c.requires.board.1,
      takes_in g.T.Tale.tale c.args.board.now.key seat.id o.seat.id seat.me.0 o.seat.me.0 ns seat.me.0.lists ((o.number, list_of o.seat.me.0.lists) ∷ [])
          (ap (λ m. m.0) inv.1) (ap (λ m. m.0) free ∙ ap (λ l. view_of l ((o.number, list_of o.seat.me.0.lists) ∷ []) None) (ap (λ t. t.numbers) turn)),
    )

pub loop-ticket-preserved : goal.loop-ticket-preserved
loop-ticket-preserved g c =
    let inv = c.loop-ticket.invariant in let seat = c.loop-ticket.seat in let ns = c.args.seat.now.me.0.numbers in
    let own = of_rest (turn_value c.args.board.now.table_id ns) c.loop-ticket.tickets.items c.pop.new.self.items c.in-Some.ticket c.in-Some.ensures.items inv.3 in
    let o = c.ticket.inside in let v = c.ticket.view_is in
    let lists = ap (λ m. m.0.lists) c.join_seat.ensures.2 ∙ ap (λ l. l ++ seat.me.0.lists) (c.ticket.invariant.0 ∙ (λ i. ((v i).number, (v i).list) ∷ [])) in (
      c.join_seat.ensures.0 ∙ inv.0,
      joined seat.me o.seat.me c.join_seat.new.seat.me ns inv.1 c.join_seat.ensures.2,
      peeled c.loop-ticket.tickets.items c.pop.new.self.items c.in-Some.ticket seat.me.0.lists _ _ c.in-Some.ensures.items lists inv.2,
      own.0,
    )
