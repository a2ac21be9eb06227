use Rattle.tso_outcome.specs.Runs.{Run}
use Rattle.tso_outcome.specs.Lawful.{IsLawful}
use Rattle.tso_outcome.proofs.Ended.{CameBack}
use Rattle.tso_outcome.proofs.Above.{keep_batches}
use Rattle.tso_outcome.proofs.Again.{keep_refusals}
use Rattle.tso_outcome.proofs.Terms.{keep_terms}
use Rattle.tso_outcome.proofs.Plans.{keep_windows}
use Rattle.tso_outcome.proofs.Finish.{came_back}
use Rattle.tso_outcome.proofs.laws.each_run_is_lawful.Goals as goal

lawful : (run : Run) → CameBack run → IsLawful run
lawful run b = record { windows = keep_windows run b; batches = keep_batches run b; refusals = keep_refusals run b; terms = keep_terms run b }

pub returns : goal.returns
returns c = record { lawful = λ run f. lawful run (came_back run f) }
