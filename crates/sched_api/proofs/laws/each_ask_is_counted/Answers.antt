use Rattle.std.proofs.Common.{refl}
use Rattle.sched_api.proofs.LawLemmas.{counted}
use Rattle.sched_api.proofs.laws.each_ask_is_counted.Goals as goal

pub returns : goal.returns
returns c = record { one = counted; greatest = refl }
