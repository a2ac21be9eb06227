use Rattle.std.proofs.Common.{[], None, sym, ap, ◌∙◌, append-nil}
use Rattle.pd_turn.specs.Turns.{ticket_value}
use Rattle.pd_turn.proofs.turn.Turn.give_back.Goals as goal

pub give-requires-clause-adds : goal.give-requires-clause-adds
give-requires-clause-adds g c = let told = g.T.Tale.tale c.args.value in ([], (told, c.requires.same, sym (append-nil told)))

pub returns : goal.returns
returns g c =
    let told = g.T.Tale.tale c.args.value in
    record { ticket = c.give.ensures.ticket [] (told, c.requires.same, sym (append-nil told)) ∙ ap (λ l. ticket_value c.args.self.now c.args.ticket.now.number l None) (append-nil c.args.ticket.now.list) }
