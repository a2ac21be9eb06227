-- A lawful run: what the oracle promises of all that a run on threads leaves, whatever the schedule of its threads was.
use Rattle.tso_outcome.specs.Runs.{Run}
use Rattle.tso_outcome.specs.Windows.{KeepWindows}
use Rattle.tso_outcome.specs.Batches.{KeepBatches}
use Rattle.tso_outcome.specs.Refusals.{KeepRefusals}
use Rattle.tso_outcome.specs.Terms.{KeepTerms}

-- A lawful run
pub record IsLawful (run : Run) : Type 0 where
  pub windows : KeepWindows run
  pub batches : KeepBatches run
  pub refusals : KeepRefusals run
  pub terms : KeepTerms run
