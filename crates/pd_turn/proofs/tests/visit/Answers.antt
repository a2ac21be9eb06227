use Rattle.std.proofs.Common.{◌≡◌, ◌++◌, ◌∷◌, [], sym, ap, ◌∙◌}
use Rattle.pd_turn.proofs.tests.visit.Goals as goal

pub give-requires-clause-adds : goal.give-requires-clause-adds
give-requires-clause-adds g c =
    let taken = c.take-visits.ensures.ticket in
    let visits = c.take-visits.result.all.items in
    let number = c.number-number.ensures ∙ sym (ap (λ t. t.number) taken) in
    (c.args.count ∷ [], (visits, ap (λ t. t.taken) taken, c.note.ensures.noted c.if-note.true ∙ ap (λ n. visits ++ (n, c.args.count) ∷ []) number))

pub returns-then-note : goal.returns-then-note
returns-then-note g c =
    let taken = c.take-visits.ensures.ticket in
    let visits = c.take-visits.result.all.items in
    let number = c.number-number.ensures ∙ sym (ap (λ t. t.number) taken) in
    let given = c.give.ensures.ticket (c.args.count ∷ []) (visits, ap (λ t. t.taken) taken, c.note.ensures.noted c.if-note.true ∙ ap (λ n. visits ++ (n, c.args.count) ∷ []) number) in
    record { turn_is = ap (λ t. t.turn) given; none = ap (λ t. t.taken) given }
