use Rattle.tso_board.specs.Boards.{board_id}
use Rattle.tso_run.proofs.tests.want_of_memory_of_one_client_is_told.Given as goal

-- the board that was just opened
abbrev pub ghosts-without_memory : goal.ghosts-without_memory
ghosts-without_memory g a = record { board = board_id a.board.now }
