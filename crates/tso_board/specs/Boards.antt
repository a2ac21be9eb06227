-- What a board was opened with.
use Rattle.atomic_table.specs.Seated.{TableId}
use Rattle.tso_model.specs.declared.view.Setup.{Setup}
use Rattle.tso_board.specs.declared.board.Board.{Board}

-- the numbers of drivers and clients, and the opening cell
abbrev pub setup_of : Board → Setup
setup_of b = b.table.shared.key

-- which board it is
abbrev pub board_id : Board → TableId
board_id b = b.table.shared.table_id
