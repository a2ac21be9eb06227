use Rattle.std.proofs.Common.{arith, ◌∷◌, [], None, sym, ap, ◌∙◌, subst}
use Rattle.pd_turn.specs.Rule.{view_of, list_of, lists_of, Has}
use Rattle.pd_turn.specs.Turns.{turn_value, IsMadeBy}
use Rattle.pd_turn.proofs.Each.{all_told, free_are_of}
use Rattle.pd_turn.proofs.Tickets.{free_seat, of_rest, told_all, whole_lists, last_has}
use Rattle.pd_turn.proofs.turn.Turn.end.Goals as goal

pub unreachable-requires : goal.unreachable-requires
unreachable-requires g c =
    let none = sym c.args.tickets.ok.0 ∙ c.in_default.ensures.cases.0 in
    omega (arith, none, c.requires.some)

pub unite-requires-clause-board : goal.unite-requires-clause-board
unite-requires-clause-board g c =
    let own = of_rest c.args.self.now c.args.tickets.items c.pop.new.self.items c.in-Some.last c.in-Some.ensures.items (free_are_of _ _ c.requires.turn) in
    (ap (λ t. t.id) (ap (λ t. t.turn) c.last.view_is ∙ own.1 ∙ sym c.self.view_is), omega (arith, c.self.invariant.0))

pub unite-requires-clause-seat : goal.unite-requires-clause-seat
unite-requires-clause-seat g c =
    let own = of_rest c.args.self.now c.args.tickets.items c.pop.new.self.items c.in-Some.last c.in-Some.ensures.items (free_are_of _ _ c.requires.turn) in
    let m = c.last.inside.seat.me in
    free_seat c.last.inside.number m c.last.invariant (ap (λ t. t.taken) c.last.view_is ∙ own.2) ∙ ap (λ l. (view_of m.0.numbers l None, [])) (sym c.last.invariant.0)

pub unite-requires-clause-tickets : goal.unite-requires-clause-tickets
unite-requires-clause-tickets g c k t there =
    let own = of_rest c.args.self.now c.args.tickets.items c.pop.new.self.items c.in-Some.last c.in-Some.ensures.items (free_are_of _ _ c.requires.turn) in
    let here = ap (λ u. u.turn) c.last.view_is ∙ own.1 in let both = own.0 k t there in
    (both.0 ∙ (λ i. turn_value (ap (λ u. u.id) (sym c.self.view_is) i) (ap (λ u. u.numbers) (sym here) i)), both.1)

pub take-requires-clause-board : goal.take-requires-clause-board
take-requires-clause-board g c =
    let own = of_rest c.args.self.now c.args.tickets.items c.pop.new.self.items c.in-Some.last c.in-Some.ensures.items (free_are_of _ _ c.requires.turn) in
    (c.unite.ensures.board ∙ ap (λ t. t.id) (ap (λ t. t.turn) c.last.view_is ∙ own.1 ∙ sym c.self.view_is), c.self.invariant.0, c.self.invariant.1)

pub returns-clause-lists : goal.returns-clause-lists
returns-clause-lists g c =
    let m = c.last.inside.seat.me in let v = c.last.view_is in let told = g.T.Tale.tale c.take.result in
    let one = c.last.invariant.0 ∙ (λ i. ((v i).number, (v i).list) ∷ []) in
    all_told told c.args.tickets.items (told_all c.args.tickets.items c.unite.new.seat.me.0.lists told
    (ap (λ x. x.0.lists) c.unite.ensures.seat ∙ whole_lists c.args.tickets.items c.pop.new.self.items c.in-Some.last m.0.lists c.in-Some.ensures.items one)
    (λ k l has. (c.take.ensures.lists k l has).1))

pub returns-clause-made : goal.returns-clause-made
returns-clause-made g c =
    let m = c.last.inside.seat.me in let told = g.T.Tale.tale c.take.result in
    let own = of_rest c.args.self.now c.args.tickets.items c.pop.new.self.items c.in-Some.last c.in-Some.ensures.items (free_are_of _ _ c.requires.turn) in
    let n = c.last.inside.number in let l = list_of m.0.lists in
    let has : Has c.unite.new.seat.me.0.lists n l = subst (λ ls. Has ls n l) (ap (λ x. x.0.lists) (sym c.unite.ensures.seat)) (last_has (lists_of c.pop.new.self.items) m.0.lists n l c.last.invariant.0) in
    subst (λ ns. IsMadeBy ns told) (ap (λ x. x.0.numbers) c.unite.ensures.seat ∙ ap (λ t. t.numbers) (ap (λ t. t.turn) c.last.view_is ∙ own.1)) (c.take.ensures.lists n l has).0
