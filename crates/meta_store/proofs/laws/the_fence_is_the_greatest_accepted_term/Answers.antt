use Rattle.std.proofs.Common.{refl}
use Rattle.meta_store.proofs.Firsts.{fence_grows, fence_has, fence_stays}
use Rattle.meta_store.proofs.Verdicts.{lead_fences, writes_leave_fence}
use Rattle.meta_store.proofs.laws.the_fence_is_the_greatest_accepted_term.Goals as goal

pub returns : goal.returns
returns c = record { none = refl; upper = fence_grows; lead = lead_fences; own = fence_has; writes = writes_leave_fence; refused = fence_stays }
