use Rattle.std.proofs.Common.{◌≡◌, ℕ, ◌<◌, drop, take, get_or, [], false}
use Rattle.pd_script.specs.Words.{is_space, pieces_from}
use Rattle.pd_script.proofs.split.first_word.Given as goal

abbrev pub invariant-loop-i : goal.invariant-loop-i
invariant-loop-i l = record {
  pieces : pieces_from [] l.line ≡ pieces_from (take l.i l.line) (drop l.i l.line);
  bytes : (k : ℕ) → k < l.i → is_space (get_or l.line k 0) ≡ false;
}
