use Rattle.pd_state.proofs.PatrolBuries.{patrols, sweep_order}
use Rattle.pd_state.proofs.check_laws.what_a_patrol_leaves.Goals as goal

pub returns : goal.returns
returns c = record { patrols = λ around before at then deed rise. patrols around rise before at then deed; order = sweep_order }
