-- The lists of a run, and how they grow.
use Rattle.std.specs.Prelude.{ℕ, ◌-◌, List}
use Rattle.pd_types.specs.declared.oracle.Batch.{Batch}
use Rattle.pd_types.specs.declared.oracle.Window.{Window}
use Rattle.tso_core.specs.declared.done.Done.{Done}
use Rattle.tso_core.specs.Done.{windows_kept, batches_kept}

-- the windows and batches of a run, and how many more entries each has room for
pub record Ran : Type 0 where
  pub windows : List Window
  pub batches : List Batch
  pub spare : ℕ

-- the lists after this was done
abbrev pub run_after : Done → Ran → Ran
run_after done r = record { windows = windows_kept done r.windows; batches = batches_kept done r.batches; spare = r.spare - 1 }
