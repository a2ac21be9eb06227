-- The parts of a timestamp (PD documentation, "Timestamp Oracle").
use Rattle.std.specs.Prelude.{ℕ, ◌+◌, ◌*◌, ◌/◌, ◌%◌}
use Rattle.pd_types.specs.declared.stamp.TheConstants.{LOGICAL}

-- a timestamp is its physical part times 2 to the 18th, plus its logical part
abbrev pub timestamp : ℕ → ℕ → ℕ
timestamp p l = p * LOGICAL + l

-- the milliseconds since the Unix epoch
abbrev pub physical : ℕ → ℕ
physical ts = ts / LOGICAL

-- the place within the millisecond
abbrev pub logical : ℕ → ℕ
logical ts = ts % LOGICAL
