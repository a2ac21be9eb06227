use Rattle.pd_ctl.proofs.Faults.{bad_cause, extra_cause, missing_cause, unknown_cause}
use Rattle.pd_ctl.proofs.laws.each_fault_has_its_cause.Goals as goal

pub returns : goal.returns
returns c = record { unknown = unknown_cause; missing = missing_cause; extra = extra_cause; bad = bad_cause }
