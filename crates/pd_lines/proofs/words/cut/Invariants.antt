use Rattle.std.proofs.Common.{◌≡◌, All, false, nat_eq, take}
use Rattle.pd_lines.proofs.words.cut.Given as goal

abbrev pub invariant-loop-i : goal.invariant-loop-i
invariant-loop-i l = All (λ b. nat_eq b l.byte ≡ false) (take l.i l.word)
