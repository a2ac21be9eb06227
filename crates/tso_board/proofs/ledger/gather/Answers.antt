use Rattle.tso_board.proofs.Gathers.{gathered}
use Rattle.tso_board.proofs.Whose.{drivers_are, clients_are}
use Rattle.tso_board.proofs.ledger.gather.Goals as goal

pub returns-clause-ok : goal.returns-clause-ok
returns-clause-ok c =
    let it = c.in-Ok.ensures in
    let end = c.end-mark.ensures.gathered in
    let whole = gathered _ _ _ (drivers_are c.args.crew.seats.items) (clients_are c.args.crew.passes.items) end.0 end.1 end.2 _ _ _ it.windows it.claims_sorted it.claims it.batches_sorted it.batches in
    rw (c.of.ensures.value, c.of-2.ensures.value) whole
