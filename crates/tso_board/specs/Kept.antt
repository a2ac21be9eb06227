-- What an actor keeps in memory of its view, by the numbers alone.
use Rattle.std.specs.Prelude.{ℕ, ◌*◌, ◌/◌, ◌%◌, ◌==◌, Bool, true, false, Option, Some, None, cond, nat_lt}
use Rattle.pd_types.specs.declared.stamp.TheConstants.{LOGICAL}
use Rattle.tso_model.specs.declared.entries.Claim.{Claim}
use Rattle.tso_model.specs.declared.entries.Limit.{Limit}
use Rattle.tso_model.specs.Steps.{held_or}

-- the mark after the cursor was raised: it is set where the term is held, its window is open and the cursor reached its start
abbrev pub marks_of : Bool → Bool → Option Claim → ℕ → Bool
marks_of holds marked latest at = cond holds (cond (nat_lt (held_or latest).lo (held_or latest).hi) (cond (nat_lt at ((held_or latest).lo * LOGICAL)) marked true) marked) marked

-- the limit that a loaded word brings into hand: none where the word is 0, or its term is below the seen one
abbrev pub hand_by : ℕ → ℕ → ℕ → Option Limit
hand_by d word term = cond (cond (word == 0) false (cond (nat_lt (word % LOGICAL) term) false true)) (Some (record { driver = d; term = word % LOGICAL; hi = word / LOGICAL })) None
