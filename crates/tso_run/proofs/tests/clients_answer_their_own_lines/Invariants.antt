use Rattle.tso_board.specs.Boards.{board_id}
use Rattle.tso_run.proofs.tests.clients_answer_their_own_lines.Given as goal

-- the board that was just opened
abbrev pub ghosts-call_in_order : goal.ghosts-call_in_order
ghosts-call_in_order g a = record { board = board_id a.board.now }
