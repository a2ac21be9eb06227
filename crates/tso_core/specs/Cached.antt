-- What a seat keeps beside its lists, so that no step walks over them.
use Rattle.std.specs.Prelude.{◌≡◌, ℕ, ◌<◌, List, slice_index}
use Rattle.tso_model.specs.declared.entries.Added.{Added}
use Rattle.tso_model.specs.History.{added_by}

-- the client's sums, by the driver's number
abbrev pub AreSums : ℕ → List Added → List ℕ → Type 0
AreSums client added sums = (d : ℕ) → d < 8 → slice_index sums d ≡ added_by client d added
