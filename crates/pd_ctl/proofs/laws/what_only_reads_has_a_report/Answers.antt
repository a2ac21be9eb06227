use Rattle.pd_ctl.proofs.Written.{reads_is}
use Rattle.pd_ctl.proofs.laws.what_only_reads_has_a_report.Goals as goal

pub returns : goal.returns
returns c = record { reads = reads_is }
