use Rattle.pd_ctl.proofs.Again.{again}
use Rattle.pd_ctl.proofs.laws.what_is_printed_is_read.Goals as goal

pub returns : goal.returns
returns c = record { again = again }
