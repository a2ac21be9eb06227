-- Numbers of actors, and orders of numbers (own choice).
use Rattle.std.specs.Prelude.{ℕ, ◌<◌, ◌≤◌, max, List, [], ◌∷◌, Bool, nat_eq, nat_lt, ◌&&◌, ◌||◌}

-- the number of one of so many: they are counted from 1
pub record IsOneOf (most n : ℕ) : Type 0 where
  pub pos : 0 < n
  pub low : n ≤ most

-- the greatest of these numbers, or 0
abbrev pub greatest_of : List ℕ → ℕ
greatest_of [] = 0
greatest_of (n ∷ more) = max n (greatest_of more)

-- the first number is the lesser, or they are equal and what else is compared says so
abbrev pub lesser_then : ℕ → ℕ → Bool → Bool
lesser_then one other rest = nat_lt one other || (nat_eq one other && rest)
