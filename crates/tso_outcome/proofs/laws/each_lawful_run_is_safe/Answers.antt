use Rattle.tso_outcome.proofs.Safe.{is_safe}
use Rattle.tso_outcome.proofs.laws.each_lawful_run_is_safe.Goals as goal

pub returns : goal.returns
returns c = record { safe = is_safe }
