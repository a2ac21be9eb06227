use Rattle.std.specs.Prelude.{map}
use Rattle.tso_board.specs.Boards.{board_id}
use Rattle.pd_shared.specs.Names.{no_meta}
use Rattle.pd_run.specs.Pipes.{names_from}
use Rattle.pd_run.proofs.Readying.{turn_of_seats}
use Rattle.pd_run.proofs.runner.run.Given as goal

-- the board that was handed in
abbrev pub ghosts-run_named-N-BoardName : goal.ghosts-run_named-N-BoardName
ghosts-run_named-N-BoardName g a = record { board = board_id a.crew.board }

-- the metadata and the streams that were opened
abbrev pub ghosts-run_named-N-ClusterName : goal.ghosts-run_named-N-ClusterName
ghosts-run_named-N-ClusterName g a = record {
  meta = turn_of_seats no_meta a.metas.seats.items;
  streams = names_from 1 (map (λ one. one.items) a.pipes.items);
}
