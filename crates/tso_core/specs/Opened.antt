-- The state of a new oracle.
use Rattle.std.specs.Prelude.{◌+◌, List, [], ◌∷◌, ◌++◌, map, replicate}
use Rattle.tso_model.specs.declared.view.View.{View}
use Rattle.tso_model.specs.declared.view.Setup.{Setup}
use Rattle.tso_model.specs.Words.{opening_claim}
use Rattle.tso_model.specs.Moves.{numbers_from, first_words, driver_view, client_view}
use Rattle.tso_core.specs.Due.{at_rest}
use Rattle.tso_core.specs.Whole.{Whole, base_view}

-- the base, and each driver and client, which did nothing yet
abbrev pub first_views : Setup → List View
first_views k = (base_view k ∷ map (driver_view k) (numbers_from 1 k.drivers)) ++ map (client_view k) (numbers_from 1 k.clients)

-- all are at rest, no note waits, and the opening window is the only one
abbrev pub opened : Setup → Whole
opened k = record {
  setup = k;
  words = first_words k;
  views = first_views k;
  turns = replicate (k.drivers + 1) at_rest;
  posts = replicate (k.clients + 1) [];
  windows = (opening_claim k.cell).window ∷ [];
  batches = [];
}
