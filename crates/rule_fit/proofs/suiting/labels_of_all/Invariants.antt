use Rattle.std.proofs.Common.{◌≡◌, take, map, length}
use Rattle.rule_fit.specs.Suits.{labels_of_all}
use Rattle.rule_fit.proofs.suiting.labels_of_all.Given as goal

abbrev pub invariant-loop-id : goal.invariant-loop-id
invariant-loop-id l = record {
  value : map (λ labels. labels.now) l.all.items ≡ labels_of_all (take l.id-index l.ids) l.stores;
  each : length l.all.items ≡ l.id-index;
}
