-- Words of a line, and what is read of them one after the other (own choice).
use Rattle.std.specs.Prelude.{ℕ, List, length, Bool, nat_lt, Result, Ok, Err}

-- the piece isn't empty
abbrev pub is_word : List ℕ → Bool
is_word piece = nat_lt 0 (length piece)

-- what is read next with a value; a fault stays
abbrev pub and_then : {A B E : Type 0} → Result A E → (A → Result B E) → Result B E
and_then (Ok value) next = next value
and_then (Err fault) next = Err fault
