-- Keys and texts by their bytes, and ranges of keys (metapb, `Region`: `start_key` and `end_key`; TiKV's keys are ordered byte by byte).
use Rattle.std.specs.Prelude.{ℕ, List, length, Bool, not, ◌&&◌, ◌||◌, nat_eq}
use Rattle.std.specs.Cmp.Lexicographic.{slice_cmp}
use Rattle.std.specs.Ordering.{is_lt, nat_cmp}
use Rattle.std.specs.declared.cmp.Ordering.{Ordering}

-- keys and texts are ordered byte by byte
abbrev pub bytes_order : List ℕ → List ℕ → Ordering
bytes_order one other = slice_cmp nat_cmp one other

-- the first key is below the second
abbrev pub is_below : List ℕ → List ℕ → Bool
is_below key other = is_lt (bytes_order key other)

-- the key is below the end; an empty end has no upper bound
abbrev pub is_before_end : List ℕ → List ℕ → Bool
is_before_end key end = nat_eq (length end) 0 || is_below key end

-- the range from a start up to an end has the key
abbrev pub in_range : List ℕ → List ℕ → List ℕ → Bool
in_range start end key = not (is_below key start) && is_before_end key end

-- the range has no key: its end isn't empty and isn't above its start
abbrev pub is_bad_range : List ℕ → List ℕ → Bool
is_bad_range start end = not (is_before_end start end)
