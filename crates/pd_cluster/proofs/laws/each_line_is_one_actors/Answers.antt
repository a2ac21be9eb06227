use Rattle.pd_cluster.proofs.RunLines.{are_shared}
use Rattle.pd_cluster.proofs.laws.each_line_is_one_actors.Goals as goal

pub returns : goal.returns
returns c = record { shared = are_shared }
