use Rattle.region_tree.proofs.Lawful.{range_start, range_end, ranges_touch}
use Rattle.region_tree.proofs.laws.a_range_has_its_start_and_not_its_end.Goals as goal

pub returns : goal.returns
returns c = record { start = range_start; end = range_end; touching = ranges_touch }
