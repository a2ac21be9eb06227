-- What the lists of a run in memory mean.
use Rattle.std.specs.Prelude.{◌+◌, ◌≤◌, vec_len, vec_capacity}
use Rattle.tso_core.specs.Ran.{Ran}
use Rattle.tso_core.specs.declared.run.Run.TheInside.{Inside}

-- the lists and the room
abbrev pub ran_of : Inside → Ran
ran_of r = record { windows = r.windows.items; batches = r.batches.items; spare = r.spare }

-- both lists have room for so many more entries
pub record HasSpare (r : Inside) : Type 0 where
  pub windows : vec_len r.windows + r.spare ≤ vec_capacity r.windows
  pub batches : vec_len r.batches + r.spare ≤ vec_capacity r.batches
