use Rattle.std.proofs.Common.{sym, ap, ◌∙◌}
use Rattle.pd_turn.specs.Turns.{items_of}
use Rattle.pd_turn.proofs.Tickets.{took, its_list}
use Rattle.pd_turn.proofs.turn.Turn.take.Goals as goal

pub invariant_of-ticket : goal.invariant_of-ticket
invariant_of-ticket g c = took _ c.ticket.inside.seat.me _ (g.T.Tale.tale c.take.result) c.ticket.invariant c.take.ensures.seat c.take.ensures.lists

pub returns-clause-list : goal.returns-clause-list
returns-clause-list g c =
    let told = g.T.Tale.tale c.take.result in
    ap (λ t. t.list) (sym c.ticket.view_is) ∙ (its_list c.ticket.inside.number c.ticket.inside.seat.me told c.ticket.invariant c.take.ensures.lists).1 ∙ ap (λ t. items_of t.number told) c.ticket.view_is
