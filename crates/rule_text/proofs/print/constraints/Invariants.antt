use Rattle.std.proofs.Common.{◌≡◌, take, map}
use Rattle.serde_json.specs.View.{view}
use Rattle.rule_text.specs.Meaning.{constraint_data}
use Rattle.rule_text.proofs.print.constraints.Given as goal

abbrev pub invariant-loop-item : goal.invariant-loop-item
invariant-loop-item l = map view l.values.items ≡ map constraint_data (take l.item-index l.items)
