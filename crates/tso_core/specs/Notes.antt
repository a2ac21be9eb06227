-- Notes between clients: a copy of what the sender has seen, kept for the other client until it hears it (own choice).
use Rattle.std.specs.Prelude.{ℕ, List, [], ◌∷◌, ◌++◌, length, slice_set, if◌then◌else◌}
use Rattle.tso_model.specs.Moves.{new_note, joined, spent_view}
use Rattle.tso_core.specs.declared.reply.Due.TheVariants.{Rest}
use Rattle.tso_core.specs.declared.reply.Reply.TheVariants.{Told, Heard, Nothing}
use Rattle.tso_core.specs.Due.{same_due}
use Rattle.tso_core.specs.Whole.{Whole, place_of_client, view_at, post_at}
use Rattle.tso_core.specs.Steps.{Stepped, out_of_turn, due_at}

-- a note of this client is split off and waits for the other
abbrev pub note_left : Whole → ℕ → ℕ → Whole
note_left w from to = record w {
  views = w.views ++ new_note (view_at w (place_of_client w from)) ∷ [];
  posts = slice_set w.posts to (post_at w to ++ length w.views ∷ []);
}

-- a client leaves a note for another, or for itself
abbrev pub tell_of : Whole → ℕ → ℕ → Stepped
tell_of w from to = if same_due (due_at w from) Rest then record { reply = Told; after = note_left w from to } else out_of_turn w (due_at w from)

-- the note at this place is joined into the client
abbrev pub note_met : Whole → ℕ → ℕ → List ℕ → Whole
note_met w c note rest = record w {
  views = slice_set (slice_set w.views (place_of_client w c) (joined (view_at w (place_of_client w c)) (view_at w note))) note spent_view;
  posts = slice_set w.posts c rest;
}

-- the oldest note that waits is heard, or nothing where none waits
abbrev pub heard_from : Whole → ℕ → List ℕ → Stepped
heard_from w c [] = record { reply = Nothing; after = w }
heard_from w c (note ∷ rest) = record { reply = Heard (view_at w note).seen; after = note_met w c note rest }

-- a client hears the oldest note that waits for it
abbrev pub hear_of : Whole → ℕ → Stepped
hear_of w c = if same_due (due_at w c) Rest then heard_from w c (post_at w c) else out_of_turn w (due_at w c)
