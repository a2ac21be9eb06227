use Rattle.std.proofs.Common.{refl}
use Rattle.heartbeat.proofs.Lawful.{bad_first, stale_second, full_third, accepted_else}
use Rattle.heartbeat.proofs.laws.the_first_reason_is_answered.Goals as goal

pub returns : goal.returns
returns c = record { bad = bad_first; stale = stale_second; full = full_third; accepted = accepted_else; stands = λ beat held removed. refl }
