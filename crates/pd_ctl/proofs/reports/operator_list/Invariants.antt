use Rattle.std.proofs.Common.{◌≡◌, take, map}
use Rattle.std.specs.List.{filter_map}
use Rattle.serde_json.specs.View.{view}
use Rattle.op_control.specs.Table.{active_at}
use Rattle.pd_ctl.specs.Trees.{operator_tree}
use Rattle.pd_ctl.proofs.reports.operator_list.Given as goal

abbrev pub invariant-loop-place : goal.invariant-loop-place
invariant-loop-place l = map view l.values.items ≡ map operator_tree (filter_map (active_at l.operators) (take l.place l.operators.busy))
