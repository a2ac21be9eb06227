-- The lines of a text and the words of a line (own choice).
use Rattle.std.specs.Prelude.{ℕ, ◌-◌, List, [], ◌∷◌, ◌++◌, Bool, true, false, nat_eq, length, take, drop, if◌then◌else◌}
use Rattle.std.specs.List.{filter, position_or_len, prefix_len, suffix_len}
use Rattle.pd_lines.specs.Words.{is_word}

-- what stands between spaces; this piece so far
abbrev pub pieces_from : List ℕ → List ℕ → List (List ℕ)
pieces_from piece [] = piece ∷ []
pieces_from piece (b ∷ bs) = if nat_eq b 32 then piece ∷ pieces_from [] bs else pieces_from (piece ++ b ∷ []) bs

-- the words of a line: what stands between spaces and isn't empty
abbrev pub words : List ℕ → List (List ℕ)
words line = filter is_word (pieces_from [] line)

-- a space
abbrev pub is_space : ℕ → Bool
is_space b = nat_eq b 32

-- a line from its first byte that is no space on
abbrev pub from_word : List ℕ → List ℕ
from_word line = drop (prefix_len is_space line) line

-- the bytes from their first space on
abbrev pub from_space : List ℕ → List ℕ
from_space bytes = drop (position_or_len is_space bytes) bytes

-- what stands behind the first word of a line
abbrev pub behind_word : List ℕ → List ℕ
behind_word line = from_space (from_word line)

-- the bytes up to their last that is no space
abbrev pub to_word : List ℕ → List ℕ
to_word bytes = take (length bytes - suffix_len is_space bytes) bytes

-- a line without the spaces at its two ends; those inside stay
abbrev pub trimmed : List ℕ → List ℕ
trimmed line = to_word (from_word line)

-- a line without its line feed, and whether it has one
pub record RawLine : Type 0 where
  pub bytes : List ℕ
  pub ended : Bool

-- what is left behind the last line feed
abbrev pub last_line : List ℕ → List RawLine
last_line [] = []
last_line (b ∷ bs) = record { bytes = b ∷ bs; ended = false } ∷ []

-- the lines of a text; this one so far
abbrev pub lines_from : List ℕ → List ℕ → List RawLine
lines_from line [] = last_line line
lines_from line (b ∷ bs) = if nat_eq b 10 then record { bytes = line; ended = true } ∷ lines_from [] bs else lines_from (line ++ b ∷ []) bs

-- the lines of a text
abbrev pub raw_lines : List ℕ → List RawLine
raw_lines text = lines_from [] text
