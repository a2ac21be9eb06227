use Rattle.balance_sched.proofs.LawLemmas.{by_difference, by_region, by_source, by_target, once}
use Rattle.balance_sched.proofs.laws.who_goes_first.Goals as goal

pub returns : goal.returns
returns c = record { difference = by_difference; region = by_region; source = by_source; target = by_target; once = once }
