-- What the post's lock keeps: the journal, and the notes that wait.
use Rattle.std.specs.Prelude.{◌≡◌, ℕ, ◌+◌, ◌<◌, List, [], map, All, length, slice_index_or, Option, Some, None}
use Rattle.atomic_table.specs.Seated.{TableId}
use Rattle.pd_types.specs.declared.oracle.TheConstants.{MAX_CLIENTS}
use Rattle.tso_board.specs.declared.note.Note.{Note}
use Rattle.tso_board.specs.Notes.{note_board, note_seen}
use Rattle.tso_client.specs.declared.entry.PostEntry.{PostEntry}
use Rattle.tso_client.specs.declared.entry.PostWhat.{PostWhat}
use Rattle.tso_client.specs.declared.entry.PostWhat.TheVariants.{Heard, Nothing}
use Rattle.tso_client.specs.Posts.{IsPost, Waits}

-- the notes are those that wait for the client c, the oldest first, and all come from this board
pub record AreWaiting (board : TableId) (c : ℕ) (journal : List PostEntry) (notes : List Note) : Type 0 where
  pub waits : Waits c journal (map note_seen notes)
  pub from : All (λ (n : Note). note_board n ≡ board) notes

-- the notes that wait at this place
abbrev pub queue_at : List (List Note) → ℕ → List Note
queue_at queues i = slice_index_or queues i []

-- The journal is in order, and the 64 queues have the notes that wait for the clients 1 to 64
pub record IsLog (board : TableId) (journal : List PostEntry) (queues : List (List Note)) : Type 0 where
  pub post : IsPost journal
  pub wide : length queues ≡ MAX_CLIENTS
  pub waiting : (i : ℕ) → i < MAX_CLIENTS → AreWaiting board (i + 1) journal (queue_at queues i)

-- each entry with its client's number
abbrev pub tale_of : List PostEntry → List (ℕ × PostEntry)
tale_of journal = map (λ (e : PostEntry). (e.client, e)) journal

-- what the entry of a hearing says: the pair of the note that was heard, or that none was
abbrev pub what_of : Option Note → PostWhat
what_of None = Nothing
what_of (Some note) = Heard (note_seen note)
