use Rattle.std.proofs.Common.{◌≡◌, length}
use Rattle.pd_script.specs.Forms.{items_of}
use Rattle.pd_script.proofs.Cutting.{all_in_front}
use Rattle.pd_script.proofs.items.elements.Given as goal

abbrev pub invariant-left : goal.invariant-left
invariant-left g l = g.T.Listed.read_items (items_of l.word) ≡ all_in_front l.list (g.T.Listed.read_items (items_of l.left))

abbrev pub decreases-left : goal.decreases-left
decreases-left g l = length l.left
