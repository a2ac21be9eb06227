use Rattle.std.proofs.Common.{◌≡◌, take, map}
use Rattle.serde_json.specs.View.{view}
use Rattle.rule_text.specs.Meaning.{constraint_of}
use Rattle.rule_text.proofs.build.constraints.Given as goal

abbrev pub invariant-loop-item : goal.invariant-loop-item
invariant-loop-item l = l.constraints.items ≡ map constraint_of (map view (take l.item-index l.items))
