use Rattle.balance_sched.proofs.LawLemmas.{fits_by}
use Rattle.balance_sched.proofs.laws.a_region_goes_by_the_rules_at_its_start.Goals as goal

pub returns : goal.returns
returns c = record { start = fits_by }
