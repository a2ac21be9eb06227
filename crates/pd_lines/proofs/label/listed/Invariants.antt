use Rattle.std.proofs.Common.{◌≡◌, length, nat_eq}
use Rattle.std.specs.List.{slice_split}
use Rattle.pd_lines.specs.Labels.{labels_from, labels_of}
use Rattle.pd_lines.proofs.label.listed.Given as goal

abbrev pub invariant-loop-labels : goal.invariant-loop-labels
invariant-loop-labels l = labels_of l.word ≡ labels_from l.labels (slice_split (λ b. nat_eq b 44) l.left)

abbrev pub decreases-loop-labels : goal.decreases-loop-labels
decreases-loop-labels l = length l.left
