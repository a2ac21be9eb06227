use Rattle.std.proofs.Common.{◌≡◌, take, map}
use Rattle.serde_json.specs.View.{view}
use Rattle.pd_ctl.specs.Trees.{label_tree}
use Rattle.pd_ctl.proofs.trees.labels.Given as goal

abbrev pub invariant-loop-item : goal.invariant-loop-item
invariant-loop-item l = map view l.values.items ≡ map label_tree (take l.item-index l.items)
