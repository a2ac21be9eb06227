use Rattle.std.proofs.Common.{◌≡◌, ℕ, ◌<◌, drop, get_or, true}
use Rattle.pd_script.specs.Words.{is_space, words}
use Rattle.pd_script.proofs.split.skip_spaces.Given as goal

abbrev pub invariant-loop-i : goal.invariant-loop-i
invariant-loop-i l = record {
  words : words l.line ≡ words (drop l.i l.line);
  spaces : (k : ℕ) → k < l.i → is_space (get_or l.line k 0) ≡ true;
}
