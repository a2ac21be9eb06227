-- The words of a command (pd-ctl): what stands between spaces and isn't empty.
use Rattle.std.specs.Prelude.{ℕ, nat_eq, List}
use Rattle.std.specs.List.{filter, slice_split}
use Rattle.pd_lines.specs.Words.{is_word}

-- the words, in their order
abbrev pub words : List ℕ → List (List ℕ)
words line = filter is_word (slice_split (λ b. nat_eq b 32) line)
