use Rattle.std.proofs.Common.{◌≡◌, take, map}
use Rattle.serde_json.specs.View.{view}
use Rattle.rule_text.specs.Fields.{text_of}
use Rattle.rule_text.proofs.build.texts.Given as goal

abbrev pub invariant-loop-item : goal.invariant-loop-item
invariant-loop-item l = l.texts.items ≡ map text_of (map view (take l.item-index l.items))
