-- A table of which peer suits which rule.
use Rattle.std.specs.Prelude.{ℕ, Bool, false, List, Option, Some, None, Vec, get_or, slice_get}
use Rattle.std.specs.Global.{Global}

-- the mark at r of a row, false where there is none
abbrev pub in_row : Option (Vec Bool Global) → ℕ → Bool
in_row None r = false
in_row (Some row) r = get_or row.items r false

-- the peer at p suits the rule at r, by the table
abbrev pub suits : List (Vec Bool Global) → ℕ → ℕ → Bool
suits table p r = in_row (slice_get table p) r
