use Rattle.std.proofs.Common.{◌≡◌, take, map}
use Rattle.serde_json.specs.View.{view}
use Rattle.pd_ctl.specs.Reports.{entry_tree}
use Rattle.pd_ctl.proofs.reports.store_list.Given as goal

abbrev pub invariant-loop-place : goal.invariant-loop-place
invariant-loop-place l = map view l.values.items ≡ map (entry_tree l.standing l.now) (take l.place l.stores)
