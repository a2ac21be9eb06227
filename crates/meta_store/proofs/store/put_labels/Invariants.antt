use Rattle.std.proofs.Common.{◌≡◌, ◌++◌, take}
use Rattle.pd_lines.specs.Labels.{labels_text}
use Rattle.meta_store.proofs.store.put_labels.Given as goal

abbrev pub invariant-loop-place : goal.invariant-loop-place
invariant-loop-place l = l.text.items ≡ l.fn.text.items ++ labels_text (take l.place l.labels)
