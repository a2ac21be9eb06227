use Rattle.tso_laws.proofs.Telling.{each_list_keeps}
use Rattle.tso_laws.proofs.laws.every_list_of_calls_keeps.Goals as goal

pub returns : goal.returns
returns c = record { sound = each_list_keeps }
