use Rattle.tso_model.specs.Moves.{numbers_from}
use Rattle.tso_threads.proofs.Idle.{are_idle}
use Rattle.tso_threads.proofs.leading.contend.Goals as goal

pub contenders_of-requires : goal.contenders_of-requires
contenders_of-requires g c =
    let o = c.in_ok-board.ensures.opened in
    record { seats = are_idle (record { drivers = 2; clients = 1; cell = record { saved = 0; term = 0 } }) c.in_ok-board.field-0.board (numbers_from 1 2) c.in_ok-board.field-0.seats.items o.drivers o.seats }
