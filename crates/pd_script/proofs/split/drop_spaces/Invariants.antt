use Rattle.std.proofs.Common.{◌≡◌, ◌+◌, ◌≤◌, length, take}
use Rattle.std.specs.List.{suffix_len}
use Rattle.pd_script.specs.Words.{is_space}
use Rattle.pd_script.proofs.split.drop_spaces.Given as goal

abbrev pub invariant-loop-end : goal.invariant-loop-end
invariant-loop-end l = record {
  within : l.«end» ≤ length l.line;
  spaces : l.«end» + suffix_len is_space l.line ≡ length l.line + suffix_len is_space (take l.«end» l.line);
}

abbrev pub decreases-loop-end : goal.decreases-loop-end
decreases-loop-end l = l.«end»
