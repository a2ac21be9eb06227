use Rattle.pd_state.proofs.Ranged.{standing_is}
use Rattle.pd_state.proofs.laws.the_regions_are_those_that_stand.Goals as goal

pub returns : goal.returns
returns c = record { table = standing_is }
