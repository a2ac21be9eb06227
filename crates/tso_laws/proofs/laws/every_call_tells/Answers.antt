use Rattle.tso_laws.proofs.Telling.{each_call_tells, is_new}
use Rattle.tso_laws.proofs.laws.every_call_tells.Goals as goal

pub returns : goal.returns
returns c = record { fresh = is_new; calls = each_call_tells }
