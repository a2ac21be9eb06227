-- What may stand in a place of a line (own choice).
use Rattle.std.specs.Prelude.{ℕ, ◌-◌, ◌^◌, List, ◌&&◌, nat_le, Option, Some, None, Result, Ok, Err, if◌then◌else◌}
use Rattle.pd_types.specs.declared.stamp.TheConstants.{MAX_COUNT, MOMENT_END}
use Rattle.pd_types.specs.declared.oracle.TheConstants.{CLOCK_END, LAST_TERM}
use Rattle.pd_lines.specs.Numeral.{number_of}
use Rattle.pd_script.specs.declared.place.TheConstants.{MAX_WORKERS}
use Rattle.pd_script.specs.declared.place.Place.{Place}
use Rattle.pd_script.specs.declared.place.Place.TheVariants.{Driver, Client, Moment, Count, Saved, Term, Id, Version, Seconds, Workers}
use Rattle.pd_script.specs.declared.refusal.Reason.{Reason}
use Rattle.pd_script.specs.declared.refusal.Reason.TheVariants.{BadNumber, OutOfRange}

-- the least number of the place
abbrev pub least : Place → ℕ
least Driver = 1
least Client = 1
least Moment = 0
least Count = 1
least Saved = 0
least Term = 0
least Id = 1
least Version = 0
least Seconds = 0
least Workers = 1

-- the greatest number of the place
abbrev pub most : Place → ℕ
most Driver = 2 ^ 64 - 1
most Client = 2 ^ 64 - 1
most Moment = MOMENT_END - 1
most Count = MAX_COUNT
most Saved = CLOCK_END - 1
most Term = LAST_TERM
most Id = 2 ^ 63 - 1
most Version = 2 ^ 63 - 1
most Seconds = 2 ^ 32 - 1
most Workers = MAX_WORKERS

-- the number, where it is within the place's range
abbrev pub within : Place → Option ℕ → Result ℕ Reason
within place None = Err BadNumber
within place (Some n) = if nat_le (least place) n && nat_le n (most place) then Ok n else Err OutOfRange

-- the number that a word spells in a place, or what is wrong with it
abbrev pub read_place : Place → List ℕ → Result ℕ Reason
read_place place word = within place (number_of word)
