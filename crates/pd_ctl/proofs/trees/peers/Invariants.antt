use Rattle.std.proofs.Common.{◌≡◌, take, map}
use Rattle.serde_json.specs.View.{view}
use Rattle.pd_ctl.specs.Trees.{peer_tree}
use Rattle.pd_ctl.proofs.trees.peers.Given as goal

abbrev pub invariant-loop-item : goal.invariant-loop-item
invariant-loop-item l = map view l.values.items ≡ map peer_tree (take l.item-index l.items)
