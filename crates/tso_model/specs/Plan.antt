-- What a moment asks for (PD documentation, "Timestamp Oracle": the physical part follows the clock, goes on where over half of the logical part is used, and a window is saved ahead; the exact conditions are own choice).
use Rattle.std.specs.Prelude.{ℕ, ◌+◌, ◌-◌, max, Bool, Option, None, Some, nat_le, nat_lt, if◌then◌else◌}
use Rattle.pd_types.specs.Timestamp.{physical, logical}
use Rattle.pd_types.specs.declared.oracle.TheConstants.{CLOCK_END}
use Rattle.tso_model.specs.declared.plan.TheConstants.{AHEAD_MS, HALF_LOGICAL}

-- the end that is saved with a physical time: 3,000 milliseconds behind it
abbrev pub end_of : ℕ → ℕ
end_of next = next + AHEAD_MS

-- that end would be past the clock's 45 bits
abbrev pub past_clock : ℕ → Bool
past_clock next = nat_le CLOCK_END (end_of next)

-- the start of a lead over this saved time: the moment, or the next millisecond where the moment isn't above the saved time
abbrev pub lead_next : ℕ → ℕ → ℕ
lead_next saved now = max now (saved + 1)

-- where a tick moves the cursor to, over the held end: to the moment, where that is more than a millisecond ahead; to the next millisecond, where over half of the logical part is used, or the end is reached; else nowhere
abbrev pub tick_next : ℕ → ℕ → ℕ → Option ℕ
tick_next cursor hi now =
    if nat_lt 1 (now - physical cursor) then Some now
    else if nat_lt HALF_LOGICAL (logical cursor) then Some (physical cursor + 1)
    else if nat_le hi (physical cursor) then Some (physical cursor + 1)
    else None

-- a tick saves a new end where at most a millisecond is left of the held window
abbrev pub saves_for : ℕ → ℕ → Bool
saves_for next hi = nat_le (hi - next) 1
