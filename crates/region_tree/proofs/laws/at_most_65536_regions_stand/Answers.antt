use Rattle.region_tree.proofs.Lawful.{put_room, put_full, put_stale}
use Rattle.region_tree.proofs.laws.at_most_65536_regions_stand.Goals as goal

pub returns : goal.returns
returns c = record { room = put_room; full = put_full; stale = put_stale }
