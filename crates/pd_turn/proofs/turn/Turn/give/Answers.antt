use Rattle.std.proofs.Common.{◌++◌, sym, ap, ◌∙◌}
use Rattle.pd_turn.specs.Rule.{list_of}
use Rattle.pd_turn.specs.Turns.{made_by}
use Rattle.pd_turn.proofs.Tickets.{may_give, gave, by_parts, turn_by_parts}
use Rattle.pd_turn.proofs.turn.Turn.give.Goals as goal

pub give-requires-clause-seat : goal.give-requires-clause-seat
give-requires-clause-seat g c =
    let r = c.requires.adds in let m = c.ticket.inside.seat.me in let n = c.ticket.inside.number in (
      n,
      list_of m.0.lists,
      r.0,
      r.1.0,
      may_give n m r.1.0 c.ticket.invariant (ap (λ t. t.taken) c.ticket.view_is ∙ r.1.1),
      r.1.2 ∙ ap (λ t. r.1.0 ++ made_by t.number r.0) (sym c.ticket.view_is),
    )

pub returns : goal.returns
returns g c = record {
  ticket = λ new adds.
      let m = c.ticket.inside.seat.me in let n = c.ticket.inside.number in let e = c.give.ensures.seat in let v = c.ticket.view_is in
      let grew = gave n m e.0 e.1 e.2 new e.3 adds.0 (g.T.Tale.tale c.args.value) m.0.numbers _ c.ticket.invariant e.4 e.5 (ap (λ t. t.taken) v ∙ adds.1) (adds.2 ∙ ap (λ t. adds.0 ++ made_by t.number new) (sym v)) in
      by_parts _ _ _ _ _ _ _ _
      (turn_by_parts _ _ _ _ c.give.ensures.board (ap (λ x. x.0.numbers) e.6) ∙ ap (λ t. t.turn) v ∙ c.requires.turn)
      (ap (λ t. t.number) v) (ap (λ x. list_of x.0.lists) e.6 ∙ grew ∙ ap (λ t. t.list ++ new) v) (ap (λ x. x.0.taken) e.6);
}
