use Rattle.pd_ctl.proofs.Again.{rate_above, rate_upto}
use Rattle.pd_ctl.proofs.laws.a_rate_is_at_most_a_million.Goals as goal

pub returns : goal.returns
returns c = record { upto = rate_upto; above = rate_above }
