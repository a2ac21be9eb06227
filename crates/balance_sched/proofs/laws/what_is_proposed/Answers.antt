use Rattle.balance_sched.proofs.CountLemmas.{leaders_by, never_drops, never_leads, never_moves, regions_by}
use Rattle.balance_sched.proofs.laws.what_is_proposed.Goals as goal

pub returns : goal.returns
returns c = record { regions = regions_by; leaders = leaders_by; peers = never_leads; leads = never_moves; drops = never_drops }
