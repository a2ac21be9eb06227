use Rattle.tso_board.specs.Boards.{board_id}
use Rattle.tso_client.proofs.tests.note_is_heard_once.Given as goal

-- the board that was just opened
abbrev pub ghosts-post_of_two : goal.ghosts-post_of_two
ghosts-post_of_two g a = record { board = board_id a.board }
