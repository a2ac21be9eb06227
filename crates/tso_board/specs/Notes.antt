-- What a note belongs to and tells.
use Rattle.std.specs.Prelude.{◌≡◌}
use Rattle.atomic_table.specs.Seated.{TableId}
use Rattle.pd_types.specs.declared.oracle.Seen.{Seen}
use Rattle.tso_board.specs.declared.board.Board.{Board}
use Rattle.tso_board.specs.declared.note.Note.{Note}

-- the note comes from this board
abbrev pub IsNoteOf : Note → Board → Type 0
IsNoteOf n b = n.seat.table_id ≡ b.table.shared.table_id

-- what its sender had seen
abbrev pub note_seen : Note → Seen
note_seen n = n.seen

-- which board it comes from
abbrev pub note_board : Note → TableId
note_board n = n.seat.table_id
