use Rattle.tso_model.specs.Moves.{numbers_from}
use Rattle.tso_threads.proofs.Idle.{are_clients, are_idle}
use Rattle.tso_threads.proofs.draw_tests.new_oracle.Goals as goal

pub two_drivers-requires : goal.two_drivers-requires
two_drivers-requires c =
    let o = c.in_ok-board.ensures.opened in
    record { idle = are_idle (record { drivers = 2; clients = 2; cell = record { saved = 0; term = 0 } }) c.in_ok-board.field-0.board (numbers_from 1 2) c.in_ok-board.field-0.seats.items o.drivers o.seats }

pub two_clients-requires : goal.two_clients-requires
two_clients-requires c =
    let o = c.in_ok-board.ensures.opened in
    record { clients = are_clients (record { drivers = 2; clients = 2; cell = record { saved = 0; term = 0 } }) c.in_ok-board.field-0.board (numbers_from 1 2) c.in_ok-board.field-0.passes.items o.clients o.passes }
