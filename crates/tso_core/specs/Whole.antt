-- The state of the oracle as its contracts see it, and the looks into it.
use Rattle.std.specs.Prelude.{ℕ, ◌+◌, List, [], get_or, slice_index, slice_set}
use Rattle.pd_types.specs.declared.oracle.Batch.{Batch}
use Rattle.pd_types.specs.declared.oracle.Window.{Window}
use Rattle.tso_model.specs.declared.view.View.{View}
use Rattle.tso_model.specs.declared.view.Setup.{Setup}
use Rattle.tso_model.specs.declared.step.WordStep.{WordStep}
use Rattle.tso_model.specs.Steps.{word_of, word_after, view_after}
use Rattle.tso_model.specs.Moves.{blank, spent_view}
use Rattle.tso_model.specs.Ledger.{windows_after, batches_after}
use Rattle.tso_core.specs.declared.turn.Turn.{Turn}
use Rattle.tso_core.specs.Due.{at_rest}

-- the words, what each actor knows, and how far it is
pub record Whole : Type 0 where
  pub setup : Setup
  -- the cell, and each driver's limit and cursor
  pub words : List ℕ
  -- the base that all views were split off from, then the drivers and the clients by their numbers, then the notes as they were told
  pub views : List View
  -- by the driver's number; the first one is nobody's
  pub turns : List Turn
  -- the notes that wait for each client, the oldest first, by their places among the views; the first list is nobody's
  pub posts : List (List ℕ)
  -- the windows of the run, by term
  pub windows : List Window
  -- the batches of the run, by term and first
  pub batches : List Batch

-- the client's place among the views
abbrev pub place_of_client : Whole → ℕ → ℕ
place_of_client w c = w.setup.drivers + c

-- the view at a place
abbrev pub view_at : Whole → ℕ → View
view_at w id = get_or w.views id spent_view

-- how far the driver is
abbrev pub turn_at : Whole → ℕ → Turn
turn_at w d = get_or w.turns d at_rest

-- the notes that wait for the client
abbrev pub post_at : Whole → ℕ → List ℕ
post_at w c = get_or w.posts c []

-- the word that a step of this view finds
abbrev pub found_by : Whole → ℕ → WordStep → ℕ
found_by w id step = slice_index w.words (word_of step (view_at w id))

-- the state after one atomic step of the view at a place
abbrev pub made : Whole → ℕ → WordStep → Whole
made w id step = record w {
  words = slice_set w.words (word_of step (view_at w id)) (word_after step (view_at w id) (found_by w id step));
  views = slice_set w.views id (view_after step (found_by w id step) (view_at w id));
  windows = windows_after step (found_by w id step) (view_at w id) w.windows;
  batches = batches_after step (found_by w id step) (view_at w id) w.batches;
}

-- the driver goes on from here
abbrev pub turned : Whole → ℕ → Turn → Whole
turned w d turn = record w { turns = slice_set w.turns d turn }

-- the base once it has given all numbers
abbrev pub base_view : Setup → View
base_view k = blank k.cell
