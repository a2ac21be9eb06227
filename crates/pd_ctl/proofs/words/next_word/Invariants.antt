use Rattle.std.proofs.Common.{◌≡◌, length}
use Rattle.pd_ctl.specs.Words.{words}
use Rattle.pd_ctl.proofs.words.next_word.Given as goal

abbrev pub invariant-loop-word : goal.invariant-loop-word
invariant-loop-word l = words l.left ≡ words l.fn.line

abbrev pub decreases-loop-word : goal.decreases-loop-word
decreases-loop-word l = length l.left
