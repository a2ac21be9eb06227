use Rattle.tso_model.specs.Moves.{numbers_from}
use Rattle.tso_threads.proofs.Idle.{are_clients, are_idle}
use Rattle.tso_threads.proofs.crew.start.Goals as goal

pub add_drawers-requires-clause-passes : goal.add_drawers-requires-clause-passes
add_drawers-requires-clause-passes c =
    let o = c.in_ok-board.ensures.opened in
    are_clients (record { drivers = 1; clients = c.args.clients; cell = record { saved = 0; term = 0 } }) c.in_ok-board.field-0.board (numbers_from 1 c.args.clients) c.in_ok-board.field-0.passes.items o.clients o.passes

pub add_tickers-requires-clause-seats : goal.add_tickers-requires-clause-seats
add_tickers-requires-clause-seats c =
    let o = c.in_ok-board.ensures.opened in
    are_idle (record { drivers = 1; clients = c.args.clients; cell = record { saved = 0; term = 0 } }) c.in_ok-board.field-0.board (numbers_from 1 1) c.in_ok-board.field-0.seats.items o.drivers o.seats
