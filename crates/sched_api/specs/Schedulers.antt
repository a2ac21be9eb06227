-- How a scheduler counts that it was asked (own choice).
use Rattle.std.specs.Prelude.{ℕ, ◌+◌, ◌-◌, ◌^◌, min}

-- one more, up to the greatest u64
abbrev pub more_by_one : ℕ → ℕ
more_by_one asks = min (asks + 1) (2 ^ 64 - 1)
